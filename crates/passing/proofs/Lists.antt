-- Argument lists as relations over what tokens are in them, and what leaves the number of arguments as it is.
-- Assumes nothing.
use mathlib.Core.Path.{◌≡◌, refl, sym, ap, ◌∙◌, subst}
use mathlib.Core.Bool.{Bool, true, false, cond}
use mathlib.Core.List.{List, [], ◌∷◌, ◌++◌}
use Prim.Native.Nat.{ℕ, suc}
use native.Mathlib.Omega.{arith}
use lib.Dec.{eqb}
use Rattle.pending.specs.Pending.{Pending, View, blanks, opens, view}
use Rattle.arguments.specs.Arguments.{Move, keep, part, close, fail, closing, comma, move_of}
use Rattle.arguments.proofs.Moves.{by_move}

abbrev pub views : List Pending → List View
views [] = []
views (p ∷ ps) = view p ∷ views ps

-- the moves are told apart
pub keep_close : {A : Type 0} (m : Move) (d : List ℕ) → m ≡ keep d → m ≡ close → A
keep_close m d p q = absurd (let z : ◌≡◌ {A = ℕ} 0 1 = cc in omega arith)

pub keep_part : {A : Type 0} (m : Move) (d : List ℕ) → m ≡ keep d → m ≡ part → A
keep_part m d p q = absurd (let z : ◌≡◌ {A = ℕ} 0 1 = cc in omega arith)

pub keep_fail : {A : Type 0} (m : Move) (d : List ℕ) (n i : ℕ) → m ≡ keep d → m ≡ fail n i → A
keep_fail m d n i p q = absurd (let z : ◌≡◌ {A = ℕ} 0 1 = cc in omega arith)

pub keep_same : (m : Move) (d e : List ℕ) → m ≡ keep d → m ≡ keep e → d ≡ e
keep_same m d e p q = cc

-- a token that keeps, keeps over what was due before too
closing_under : (b : ℕ) (e d x : List ℕ) → closing b e ≡ keep d → closing b (e ++ x) ≡ keep (d ++ x)
closing_under b [] d x h = go (eqb b 41) h
  where
    go : (t : Bool) → cond t close (fail 14 0) ≡ keep d → closing b x ≡ keep (d ++ x)
    go true k = keep_close close d k refl
    go false k = keep_fail (fail 14 0) d 14 0 k refl
closing_under b (c ∷ e) d x h = go (eqb b c) h
  where
    go : (t : Bool) → cond t (keep e) (fail 14 0) ≡ keep d → cond t (keep (e ++ x)) (fail 14 0) ≡ keep (d ++ x)
    go true k = ap (λ z. keep (z ++ x)) (keep_same (keep e) e d refl k)
    go false k = keep_fail (fail 14 0) d 14 0 k refl

comma_under : (e d x : List ℕ) → comma e ≡ keep d → comma (e ++ x) ≡ keep (d ++ x)
comma_under [] d x h = keep_part part d h refl
comma_under (c ∷ e) d x h = ap (λ z. keep (z ++ x)) (keep_same (keep (c ∷ e)) (c ∷ e) d refl h)

plain_under : (e d x : List ℕ) → keep e ≡ keep d → keep (e ++ x) ≡ keep (d ++ x)
plain_under e d x h = ap (λ z. keep (z ++ x)) (keep_same (keep e) e d refl h)

pub move_under : (v : View) (e d x : List ℕ) → move_of v e ≡ keep d → move_of v (e ++ x) ≡ keep (d ++ x)
move_under v e d x =
    by_move (λ (m : List ℕ → Move). m e ≡ keep d → m (e ++ x) ≡ keep (d ++ x)) (plain_under e d x)
    (λ c h. ap (λ z. keep (z ++ x)) (keep_same (keep (c ∷ e)) (c ∷ e) d refl h)) (λ b. closing_under b e d x) (comma_under e d x)
    (λ n i h. keep_fail (fail n i) d n i h refl) v

-- a token that ends an inner list, or one of its arguments, is a part of the argument around it
closing_close : (b : ℕ) (e x : List ℕ) → closing b e ≡ close → closing b (e ++ (41 ∷ x)) ≡ keep x
closing_close b [] x h = go (eqb b 41) h
  where
    go : (t : Bool) → cond t close (fail 14 0) ≡ close → cond t (keep x) (fail 14 0) ≡ keep x
    go true k = refl
    go false k = cc
closing_close b (c ∷ e) x h = go (eqb b c) h
  where
    go : (t : Bool) → cond t (keep e) (fail 14 0) ≡ close → cond t (keep (e ++ (41 ∷ x))) (fail 14 0) ≡ keep x
    go true k = keep_close (keep e) e refl k
    go false k = cc

comma_close : (e x : List ℕ) → comma e ≡ close → comma (e ++ (41 ∷ x)) ≡ keep x
comma_close [] x h = cc
comma_close (c ∷ e) x h = keep_close (comma (c ∷ e)) (c ∷ e) refl h

pub move_close : (v : View) (e x : List ℕ) → move_of v e ≡ close → move_of v (e ++ (41 ∷ x)) ≡ keep x
move_close v e x =
    by_move (λ (m : List ℕ → Move). m e ≡ close → m (e ++ (41 ∷ x)) ≡ keep x) (keep_close (keep e) e refl)
    (λ c. keep_close (keep (c ∷ e)) (c ∷ e) refl) (λ b. closing_close b e x) (comma_close e x) (λ n i h. cc) v

closing_part : {A : Type 0} (b : ℕ) (e : List ℕ) → closing b e ≡ part → A
closing_part {A} b [] h = go (eqb b 41) h
  where
    go : (t : Bool) → cond t close (fail 14 0) ≡ part → A
    go true k = absurd (let z : ◌≡◌ {A = ℕ} 0 1 = cc in omega arith)
    go false k = absurd (let z : ◌≡◌ {A = ℕ} 0 1 = cc in omega arith)
closing_part {A} b (c ∷ e) h = go (eqb b c) h
  where
    go : (t : Bool) → cond t (keep e) (fail 14 0) ≡ part → A
    go true k = keep_part (keep e) e refl k
    go false k = absurd (let z : ◌≡◌ {A = ℕ} 0 1 = cc in omega arith)

comma_part : (e x : List ℕ) → comma e ≡ part → comma (e ++ (41 ∷ x)) ≡ keep (41 ∷ x)
comma_part [] x h = refl
comma_part (c ∷ e) x h = keep_part (comma (c ∷ e)) (c ∷ e) refl h

pub move_part : (v : View) (e x : List ℕ) → move_of v e ≡ part → move_of v (e ++ (41 ∷ x)) ≡ keep (41 ∷ x)
move_part v e x =
    by_move (λ (m : List ℕ → Move). m e ≡ part → m (e ++ (41 ∷ x)) ≡ keep (41 ∷ x)) (keep_part (keep e) e refl)
    (λ c. keep_part (keep (c ∷ e)) (c ∷ e) refl) (λ b. closing_part b e) (comma_part e x) (λ n i h. cc) v

-- a list that is read to its end: how many arguments end in it from here on
pub data Counted : List View → List ℕ → ℕ → Type 0 where
  last : {t : View} {ts : List View} {due : List ℕ} → move_of t due ≡ close → Counted (t ∷ ts) due 1
  kept : {t : View} {ts : List View} {due : List ℕ} {n : ℕ} (d : List ℕ) → move_of t due ≡ keep d → Counted ts d n → Counted (t ∷ ts) due n
  parted : {t : View} {ts : List View} {due : List ℕ} {n : ℕ} → move_of t due ≡ part → Counted ts [] n → Counted (t ∷ ts) due (suc n)

-- brackets match, no comma stands outside them, no quote mark anywhere
pub data Shut : List View → List ℕ → Type 0 where
  done : Shut [] []
  more : {t : View} {ts : List View} {due : List ℕ} (d : List ℕ) → move_of t due ≡ keep d → Shut ts d → Shut (t ∷ ts) due

-- the list that follows a usage
pub data Listed : List View → ℕ → Type 0 where
  skip : {t : View} {ts : List View} {n : ℕ} → t ≡ blanks → Listed ts n → Listed (t ∷ ts) n
  opened : {t : View} {ts : List View} {n : ℕ} → t ≡ opens 41 → Counted ts [] n → Listed (t ∷ ts) n

-- a list as collected
pub data Collected : List Pending → List ℕ → List Pending → List (List Pending) → List Pending → Type 0 where
  ended : {p : Pending} {ps : List Pending} {due : List ℕ} → move_of (view p) due ≡ close → Collected (p ∷ ps) due [] [] ps
  pushed : {p : Pending} {ps : List Pending} {due : List ℕ} {a : List Pending} {xs : List (List Pending)} {r : List Pending} (d : List ℕ)
      → move_of (view p) due ≡ keep d → Collected ps d a xs r → Collected (p ∷ ps) due (p ∷ a) xs r
  cut : {p : Pending} {ps : List Pending} {due : List ℕ} {a : List Pending} {xs : List (List Pending)} {r : List Pending}
      → move_of (view p) due ≡ part → Collected ps [] a xs r → Collected (p ∷ ps) due [] (a ∷ xs) r

-- more tokens after it change nothing
pub counted_more : {a : List View} {due : List ℕ} {n : ℕ} (b : List View) → Counted a due n → Counted (a ++ b) due n
counted_more b (last e) = last e
counted_more b (kept d e c) = kept d e (counted_more b c)
counted_more b (parted e c) = parted e (counted_more b c)

pub listed_more : {a : List View} {n : ℕ} (b : List View) → Listed a n → Listed (a ++ b) n
listed_more b (skip e l) = skip e (listed_more b l)
listed_more b (opened e c) = opened e (counted_more b c)

-- nor do shut tokens put before it
pub counted_shut : {a : List View} {e : List ℕ} {due : List ℕ} {ts : List View} {n : ℕ} → Shut a e → Counted ts due n → Counted (a ++ ts) (e ++ due) n
counted_shut done c = c
counted_shut {due = due} (more {t = t} {due = e} d h s) c = kept (d ++ due) (move_under t e d due h) (counted_shut s c)

pub shut_append : {a b : List View} {e due : List ℕ} → Shut a e → Shut b due → Shut (a ++ b) (e ++ due)
shut_append done s = s
shut_append {due = due} (more {t = t} {due = e} d h k) s = more (d ++ due) (move_under t e d due h) (shut_append k s)

-- a token that keeps is the first of the argument
pub record Pushed (p : Pending) (ps : List Pending) (d : List ℕ) (a : List Pending) (xs : List (List Pending)) (r : List Pending) : Type 0 where
  pub tail : List Pending
  pub eq : a ≡ p ∷ tail
  pub rest : Collected ps d tail xs r

pub pushed_at : {p : Pending} {ps : List Pending} {due : List ℕ} {a : List Pending} {xs : List (List Pending)} {r : List Pending} {d : List ℕ}
    → Collected (p ∷ ps) due a xs r → move_of (view p) due ≡ keep d → Pushed p ps d a xs r
pushed_at {p} {due = due} {d = d} (ended e) h = keep_close (move_of (view p) due) d h e
pushed_at {p} {ps} {due} {d = d} (pushed {a = a} {xs = xs} {r = r} d' e c) h =
    record { tail = a; eq = refl; rest = subst (λ z. Collected ps z a xs r) (keep_same (move_of (view p) due) d' d e h) c }
pushed_at {p} {due = due} {d = d} (cut e c) h = keep_part (move_of (view p) due) d h e

-- a list that begins within an argument ends within it
pub counted_inside : (ps : List Pending) (e due u : List ℕ) {a : List Pending} {xs : List (List Pending)} {r : List Pending} {n : ℕ}
    → u ≡ e ++ (41 ∷ due) → Collected ps u a xs r → Counted (views ps) e n → Counted (views a) e n
counted_inside [] e due u q c _ = elim c [ ]
counted_inside (p ∷ ps) e due u {xs = xs} {r = r} q c (last h) =
    let k = pushed_at c (ap (move_of (view p)) q ∙ move_close (view p) e due h) in
    subst (λ z. Counted (views z) e 1) (sym k.eq) (last h)
counted_inside (p ∷ ps) e due u {n = n} q c (kept d h g) =
    let k = pushed_at c (ap (move_of (view p)) q ∙ move_under (view p) e d (41 ∷ due) h) in
    subst (λ z. Counted (views z) e n) (sym k.eq) (kept d h (counted_inside ps d due (d ++ (41 ∷ due)) refl k.rest g))
counted_inside (p ∷ ps) e due u q c (parted {n = m} h g) =
    let k = pushed_at c (ap (move_of (view p)) q ∙ move_part (view p) e due h) in
    subst (λ z. Counted (views z) e (suc m)) (sym k.eq) (parted h (counted_inside ps [] due (41 ∷ due) refl k.rest g))

pub listed_inside : (ps : List Pending) {due : List ℕ} {a : List Pending} {xs : List (List Pending)} {r : List Pending} {n : ℕ}
    → Collected ps due a xs r → Listed (views ps) n → Listed (views a) n
listed_inside [] c _ = elim c [ ]
listed_inside (p ∷ ps) {due = due} {n = n} c (skip e l) =
    let k = pushed_at c (ap (λ v. move_of v due) e) in
    subst (λ z. Listed (views z) n) (sym k.eq) (skip e (listed_inside ps k.rest l))
listed_inside (p ∷ ps) {due = due} {n = n} c (opened e g) =
    let k = pushed_at c (ap (λ v. move_of v due) e) in
    subst (λ z. Listed (views z) n) (sym k.eq) (opened e (counted_inside ps [] due (41 ∷ due) refl k.rest g))

-- what ends a list leaves nothing due
closing_none : (b : ℕ) (e : List ℕ) → closing b e ≡ close → e ≡ []
closing_none b [] h = refl
closing_none b (c ∷ e) h = go (eqb b c) h
  where
    go : (t : Bool) → cond t (keep e) (fail 14 0) ≡ close → c ∷ e ≡ []
    go true k = keep_close (keep e) e refl k
    go false k = cc

comma_none : (e : List ℕ) → comma e ≡ close → e ≡ []
comma_none [] h = refl
comma_none (x ∷ e) h = keep_close (comma (x ∷ e)) (x ∷ e) refl h

pub close_none : (v : View) (e : List ℕ) → move_of v e ≡ close → e ≡ []
close_none v e =
    by_move (λ (m : List ℕ → Move). m e ≡ close → e ≡ []) (keep_close (keep e) e refl) (λ c. keep_close (keep (c ∷ e)) (c ∷ e) refl)
    (λ b. closing_none b e) (comma_none e) (λ n i h. cc) v
