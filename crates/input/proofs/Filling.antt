-- What the loops of a section keep, how a section goes on at the next row, and what the sections make of an input.
-- Assumes nothing.
use mathlib.Core.Path.{◌≡◌, refl, sym, ap, subst, ◌∙◌}
use mathlib.Core.Bool.{Bool, true, false, ◌||◌}
use mathlib.Core.List.{List, [], ◌∷◌, ◌++◌, append_assoc}
use Prim.Native.Nat.{ℕ, zero, suc, min, ◌+◌, ◌-◌, ◌<◌, ◌≤◌}
use native.Mathlib.Omega.{arith}
use lib.Dec.{ltb}
use lib.ListN.{length, take, get_or, set, length-append, length-set, get_or-append}
use lib.Seq.{get_or-set_same, get_or-set_other, get_or_at, get_or-take}
use borrow.Author.Tests.{lt-ltb, le-ltb, eq-eqb, ne_eqb, ltb-true, ltb-false}
use Rattle.std.proofs.Common.{Option, Some, None}
use Rattle.text.specs.Bytes.{two_at}
use Rattle.input.specs.Sections.{Rows, broken, rows, also, Row, misfit, fit, on_row, rows_at, name_at, body_at, start_at, entry_of, entries_of, Input, unformed, with_starts, with_bodies, with_names, input_of}
use Rattle.input.specs.Filling.{NamesIn, RowsBy, NamesBy, BodiesIn, BodiesBy, StartsIn, StartsBy, FillsBoth, ParsedBy}

-- rows before those of a section
abbrev ahead : List (List ℕ) → Rows → Rows
ahead vs broken = broken
ahead vs (rows ws e) = rows (vs ++ ws) e

ahead_none : (r : Rows) → r ≡ ahead [] r
ahead_none broken = refl
ahead_none (rows ws e) = refl

ahead_also : (vs : List (List ℕ)) (v : List ℕ) (r : Rows) → ahead vs (also v r) ≡ ahead (vs ++ (v ∷ [])) r
ahead_also vs v broken = refl
ahead_also vs v (rows ws e) = ap (λ (l : List (List ℕ)). rows l e) (sym (append_assoc vs (v ∷ []) ws))

append_none : (vs : List (List ℕ)) → vs ++ [] ≡ vs
append_none [] = refl
append_none (v ∷ vs) = ap (λ (l : List (List ℕ)). v ∷ l) (append_none vs)

-- what a loop over the n rows of a section keeps: k of them are done and end at i; in the table t, which was t₀,
-- row j stands as R tells, and the entries from k on are as they were
pub record Filling (g : List ℕ → ℕ → Row) (R : List (List ℕ) → ℕ → List ℕ → List ℕ → Type 0) (s : List ℕ) (at n : ℕ) (t₀ t : List (List ℕ)) (i k : ℕ) : Type 0 where
  pub done : List (List ℕ)
  pub many : length done ≡ k
  pub few : k ≤ n
  pub slow : k ≤ i
  pub within : i ≤ length s
  pub long : length t ≡ length t₀
  pub rest : rows_at g n s at ≡ ahead done (rows_at g (n - k) s i)
  pub row : (j : ℕ) → j < k → j < length t → R t₀ j (get_or t j []) (get_or done j [])
  pub kept : (j : ℕ) → k ≤ j → get_or t j [] ≡ get_or t₀ j []

module _ {g : List ℕ → ℕ → Row} {R : List (List ℕ) → ℕ → List ℕ → List ℕ → Type 0} {s : List ℕ} {at n : ℕ} {t₀ : List (List ℕ)} where
  pub filling_none : at ≤ length s → Filling g R s at n t₀ t₀ at 0
  filling_none h =
      record {
        done = [];
        many = refl;
        few = omega arith;
        slow = omega arith;
        within = h;
        long = refl;
        rest = (let q : n - 0 ≡ n = omega arith in rw q (ahead_none (rows_at g n s at)));
        row = λ j l m. absurd (omega arith);
        kept = λ j l. refl;
      }

  module _ {t : List (List ℕ)} {i k : ℕ} (f : Filling g R s at n t₀ t i k) where
    -- the next row
    to_next : k < n → rows_at g n s at ≡ ahead f.done (on_row (g s i) (λ v e. also v (rows_at g (n - (k + 1)) s e)))
    unfolding rows_at
    to_next h = let q : n - k ≡ suc (n - (k + 1)) = omega arith in f.rest ∙ ap (λ (m : ℕ). ahead f.done (rows_at g m s i)) q

    onward : (v : List ℕ) (i' : ℕ) → k < n → g s i ≡ fit v i' → rows_at g n s at ≡ ahead (f.done ++ (v ∷ [])) (rows_at g (n - (k + 1)) s i')
    onward v i' h step =
        to_next h ∙ ap (λ (r : Row). ahead f.done (on_row r (λ v e. also v (rows_at g (n - (k + 1)) s e)))) step
        ∙ ahead_also f.done v (rows_at g (n - (k + 1)) s i')

    one_more : (v : List ℕ) → length (f.done ++ (v ∷ [])) ≡ k + 1
    one_more v = length-append f.done (v ∷ []) ∙ (let q = f.many in omega arith)

    -- a row that has no room in the table
    filling_past : (v : List ℕ) (i' : ℕ) → k < n → length t ≤ k → k < i' → i' ≤ length s → g s i ≡ fit v i' → Filling g R s at n t₀ t i' (k + 1)
    filling_past v i' h p w l step =
        record {
          done = f.done ++ (v ∷ []);
          many = one_more v;
          few = omega arith;
          slow = omega arith;
          within = l;
          long = f.long;
          rest = onward v i' h step;
          row = λ j a b. (let q : j < length f.done = (let m = f.many in omega arith) in
              rw (get_or-append f.done (v ∷ []) [] j q) (f.row j (omega arith) b));
          kept = λ j a. f.kept j (omega arith);
        }

    -- a row that is put in the table as e
    filling_next : (v : List ℕ) (i' : ℕ) (e : List ℕ) → k < n → k < length t → k < i' → i' ≤ length s → g s i ≡ fit v i'
        → R t₀ k e v → Filling g R s at n t₀ (set t k e) i' (k + 1)
    filling_next v i' e h p w l step r =
        record {
          done = f.done ++ (v ∷ []);
          many = one_more v;
          few = omega arith;
          slow = omega arith;
          within = l;
          long = length-set t k e ∙ f.long;
          rest = onward v i' h step;
          row = λ j a b. here j (ltb j k) refl a b;
          kept = λ j a. get_or-set_other t k j e [] (λ q. omega arith) ∙ f.kept j (omega arith);
        }
      where
        here : (j : ℕ) (b : Bool) → ltb j k ≡ b → j < k + 1 → j < length (set t k e) → R t₀ j (get_or (set t k e) j []) (get_or (f.done ++ (v ∷ [])) j [])
        here j true q a b =
            let l = ltb-true j k q in
            let m : j < length f.done = (let c = f.many in omega arith) in
            rw (get_or-set_other t k j e [] (λ z. omega arith), get_or-append f.done (v ∷ []) [] j m) (f.row j l (omega (arith, length-set t k e)))
        here j false q a b =
            let z : k ≡ j = omega (arith, ltb-false j k q) in
            subst (λ (x : ℕ). R t₀ x (get_or (set t k e) x []) (get_or (f.done ++ (v ∷ [])) x [])) z
            (rw (get_or-set_same t k e [] p, get_or_at f.done v [] [] k f.many) r)

    filling_broken : k < n → g s i ≡ misfit → rows_at g n s at ≡ broken
    filling_broken h step =
        to_next h ∙ ap (λ (r : Row). ahead f.done (on_row r (λ v e. also v (rows_at g (n - (k + 1)) s e)))) step

    -- a section that is read to its end
    filling_done : n ≤ k → (P : List (List ℕ) → Type 0) → P f.done → RowsBy P (Some i) (rows_at g n s at) (length s)
    unfolding rows_at
    filling_done h P p =
        let q : n - k ≡ 0 = omega arith in
        let e : rows_at g n s at ≡ rows f.done i =
        f.rest ∙ ap (λ (m : ℕ). ahead f.done (rows_at g m s i)) q ∙ ap (λ (l : List (List ℕ)). rows l i) (append_none f.done) in
        subst (λ (r : Rows). RowsBy P (Some i) r (length s)) (sym e) (refl, f.within, p)

-- the three sections' loops

abbrev pub Naming : List ℕ → ℕ → ℕ → List (List ℕ) → List (List ℕ) → ℕ → ℕ → Type 0
Naming s at n t₀ t i k = Filling name_at (λ b j e v. take 3 e ≡ v) s at n t₀ t i k

abbrev pub Bodying : List ℕ → ℕ → ℕ → List (List ℕ) → List (List ℕ) → ℕ → ℕ → Type 0
Bodying s at n t₀ t i k = Filling body_at (λ b j e w. e ≡ entry_of (get_or b j []) w) s at n t₀ t i k

abbrev pub Starting : List ℕ → ℕ → ℕ → List (List ℕ) → List (List ℕ) → ℕ → ℕ → Type 0
Starting s at n t₀ t i k = Filling start_at (λ b j e v. e ≡ v) s at n t₀ t i k

neither : (a b : Bool) → (a || b) ≡ false → (a ≡ false) × (b ≡ false)
neither true b e = (cc, cc)
neither false b e = (refl, e)

module _ {s : List ℕ} {at n : ℕ} {t₀ t : List (List ℕ)} {i k : ℕ} (f : Naming s at n t₀ t i k) (h : k < n) {z p : ℕ} (q : z ≡ get_or s (i + 1) 0) (r : p ≡ get_or s i 0) where
  pub names_broken : (ltb (length s) (i + 2 + z) || ltb 1 p) ≡ true → rows_at name_at n s at ≡ broken
  names_broken e = filling_broken f h (rw (← q, ← r, e))

  name_row : (ltb (length s) (i + 2 + z) || ltb 1 p) ≡ false → name_at s i ≡ fit (p ∷ (i + 2) ∷ z ∷ []) (i + 2 + z)
  name_row e = rw (← q, ← r, e)

  pub names_past : (ltb (length s) (i + 2 + z) || ltb 1 p) ≡ false → length t ≤ k → Naming s at n t₀ t (i + 2 + z) (k + 1)
  names_past e l = let d = neither (ltb (length s) (i + 2 + z)) (ltb 1 p) e in let w = f.slow in
      filling_past f (p ∷ (i + 2) ∷ z ∷ []) (i + 2 + z) h l (omega arith) (ltb-false _ _ d.0) (name_row e)

  pub names_next : {a b c : ℕ} → (ltb (length s) (i + 2 + z) || ltb 1 p) ≡ false → k < length t → a ≡ p → b ≡ i + 2 → c ≡ z
      → Naming s at n t₀ (set t k (a ∷ b ∷ c ∷ 0 ∷ 0 ∷ [])) (i + 2 + z) (k + 1)
  names_next {a} {b} {c} e l x y u = let d = neither (ltb (length s) (i + 2 + z)) (ltb 1 p) e in let w = f.slow in
      filling_next f (p ∷ (i + 2) ∷ z ∷ []) (i + 2 + z) (a ∷ b ∷ c ∷ 0 ∷ 0 ∷ []) h l (omega arith) (ltb-false _ _ d.0) (name_row e) (cc)

module _ {s : List ℕ} {at n : ℕ} {t₀ t : List (List ℕ)} {i k : ℕ} (f : Bodying s at n t₀ t i k) (h : k < n) {z : ℕ} (q : z ≡ two_at s i) where
  pub bodies_broken : length s < i + 2 + z → rows_at body_at n s at ≡ broken
  bodies_broken e = filling_broken f h (rw (← q, lt-ltb (length s) (i + 2 + z) e))

  body_row : i + 2 + z ≤ length s → body_at s i ≡ fit ((i + 2) ∷ z ∷ []) (i + 2 + z)
  body_row e = rw (← q, le-ltb (length s) (i + 2 + z) e)

  pub bodies_past : i + 2 + z ≤ length s → length t ≤ k → Bodying s at n t₀ t (i + 2 + z) (k + 1)
  bodies_past e l = let w = f.slow in filling_past f ((i + 2) ∷ z ∷ []) (i + 2 + z) h l (omega arith) e (body_row e)

  pub bodies_next : {b c : ℕ} → i + 2 + z ≤ length s → k < length t → b ≡ i + 2 → c ≡ z
      → Bodying s at n t₀ (set t k (get_or (get_or t k []) 0 0 ∷ get_or (get_or t k []) 1 0 ∷ get_or (get_or t k []) 2 0 ∷ b ∷ c ∷ [])) (i + 2 + z) (k + 1)
  bodies_next {b} {c} e l y u = let w = f.slow in
      filling_next f ((i + 2) ∷ z ∷ []) (i + 2 + z) (get_or (get_or t k []) 0 0 ∷ get_or (get_or t k []) 1 0 ∷ get_or (get_or t k []) 2 0 ∷ b ∷ c ∷ []) h l (omega arith) e (body_row e)
      (rw (y, u, f.kept k (omega arith)))

module _ {s : List ℕ} {at n : ℕ} {t₀ t : List (List ℕ)} {i k : ℕ} (f : Starting s at n t₀ t i k) (h : k < n) {z : ℕ} (q : z ≡ get_or s i 0) where
  pub starts_broken : length s < i + 1 + z → rows_at start_at n s at ≡ broken
  starts_broken e = filling_broken f h (rw (← q, lt-ltb (length s) (i + 1 + z) e))

  start_row : i + 1 + z ≤ length s → start_at s i ≡ fit ((i + 1) ∷ z ∷ []) (i + 1 + z)
  start_row e = rw (← q, le-ltb (length s) (i + 1 + z) e)

  pub starts_past : i + 1 + z ≤ length s → length t ≤ k → Starting s at n t₀ t (i + 1 + z) (k + 1)
  starts_past e l = let w = f.slow in filling_past f ((i + 1) ∷ z ∷ []) (i + 1 + z) h l (omega arith) e (start_row e)

  pub starts_next : {b c : ℕ} → i + 1 + z ≤ length s → k < length t → b ≡ i + 1 → c ≡ z
      → Starting s at n t₀ (set t k (b ∷ c ∷ [])) (i + 1 + z) (k + 1)
  starts_next {b} {c} e l y u = let w = f.slow in
      filling_next f ((i + 1) ∷ z ∷ []) (i + 1 + z) (b ∷ c ∷ []) h l (omega arith) e (start_row e) (cc)

module _ {s : List ℕ} {at n : ℕ} {t₀ t : List (List ℕ)} {i k : ℕ} (h : n ≤ k) where
  pub names_done : Naming s at n t₀ t i k → NamesBy (Some i) (rows_at name_at n s at) (length s) t
  names_done f =
      let m = f.many in
      filling_done f h (λ vs. NamesIn vs (length vs) t) (record { count = refl; row = λ j a b. f.row j (omega arith) b })

  pub bodies_done : Bodying s at n t₀ t i k → BodiesBy (Some i) (rows_at body_at n s at) (length s) t₀ t
  bodies_done f = let m = f.many in let l = f.long in filling_done f h (λ ws. BodiesIn ws t₀ t) (λ j a b. f.row j (omega arith) (omega arith))

  pub starts_done : Starting s at n t₀ t i k → StartsBy (Some i) (rows_at start_at n s at) (length s) t
  starts_done f = let m = f.many in filling_done f h (λ us. StartsIn us t) (λ j a b. f.row j (omega arith) b)

-- a section of n rows has n rows
data Counted : ℕ → Rows → Type 0 where
  none : {n : ℕ} → Counted n broken
  some : {n : ℕ} {vs : List (List ℕ)} {e : ℕ} → length vs ≡ n → Counted n (rows vs e)

also_counted : {n : ℕ} {r : Rows} (v : List ℕ) → Counted n r → Counted (suc n) (also v r)
also_counted v none = none
also_counted v (some q) = some (ap suc q)

counted : {n : ℕ} {vs : List (List ℕ)} {e : ℕ} → Counted n (rows vs e) → length vs ≡ n
counted (some q) = q

rows_counted : (g : List ℕ → ℕ → Row) (n : ℕ) (s : List ℕ) (i : ℕ) → Counted n (rows_at g n s i)
unfolding rows_at
rows_counted g zero s i = some refl
rows_counted g (suc n) s i = go (g s i) (λ e. rows_counted g n s e)
  where
    go : (r : Row) → ((e : ℕ) → Counted n (rows_at g n s e)) → Counted (suc n) (on_row r (λ v e. also v (rows_at g n s e)))
    go misfit c = none
    go (fit v e) c = also_counted v (c e)

-- the rows of a section that is told to be whole
record Whole (P : List (List ℕ) → Type 0) (r : Rows) (i last : ℕ) : Type 0 where
  vs : List (List ℕ)
  shape : r ≡ rows vs i
  within : i ≤ last
  holds : P vs

whole : (P : List (List ℕ) → Type 0) (r : Rows) (i last : ℕ) → RowsBy P (Some i) r last → Whole P r i last
whole P broken i last h = absurd h
whole P (rows vs e) i last h = record { vs = vs; shape = ap (rows vs) h.0; within = h.1; holds = h.2 }

-- the entries of names' and bodies' rows

entries_length : (vs ws : List (List ℕ)) → length vs ≡ length ws → length (entries_of vs ws) ≡ length vs
unfolding entries_of
entries_length [] ws e = refl
entries_length (v ∷ vs) [] e = absurd (omega arith)
entries_length (v ∷ vs) (w ∷ ws) e = ap suc (entries_length vs ws (omega arith))

entries_row : (vs ws : List (List ℕ)) (k : ℕ) → k < length vs → k < length ws → get_or (entries_of vs ws) k [] ≡ entry_of (get_or vs k []) (get_or ws k [])
unfolding entries_of
entries_row [] ws k h l = absurd (omega arith)
entries_row (v ∷ vs) [] k h l = absurd (omega arith)
entries_row (v ∷ vs) (w ∷ ws) zero h l = refl
entries_row (v ∷ vs) (w ∷ ws) (suc k) h l = entries_row vs ws k (omega arith) (omega arith)

entry_front : (e v w : List ℕ) → take 3 e ≡ v → entry_of e w ≡ entry_of v w
entry_front e v w q =
    rw (← q, get_or-take 3 e 0 0 (omega arith), get_or-take 3 e 1 0 (omega arith), get_or-take 3 e 2 0 (omega arith))

-- no section that is not of the form leaves an input that is
pub unparsed : {r : Option (ℕ × ℕ)} {i : Input} (t u : List (List ℕ)) → r ≡ None → i ≡ unformed → ParsedBy r i t u
unparsed {r} {i} t u e h = subst (λ (q : Option (ℕ × ℕ)). ParsedBy q i t u) (sym e) h

-- what `parse_rest` tells of the input, by what it meets

pub rest_short : (s : List ℕ) (at n : ℕ) (vs : List (List ℕ)) → length s < at + 2 → with_names s n (rows vs at) ≡ unformed
rest_short s at n vs h = rw (lt-ltb (length s) (at + 2) h)

pub rest_other : (s : List ℕ) (at n : ℕ) (vs : List (List ℕ)) {z : ℕ} → at + 2 ≤ length s → z ≡ two_at s at → (z ≡ n → ⊥) → with_names s n (rows vs at) ≡ unformed
rest_other s at n vs h p q = rw (le-ltb (length s) (at + 2) h, ← p, ne_eqb _ n q)

to_bodies : (s : List ℕ) (at n : ℕ) (vs : List (List ℕ)) {z : ℕ} → at + 2 ≤ length s → z ≡ two_at s at → z ≡ n → with_names s n (rows vs at) ≡ with_bodies s vs (rows_at body_at n s (at + 2))
to_bodies s at n vs {z} h p q = rw (le-ltb (length s) (at + 2) h, ← p, eq-eqb z n q)

module _ (s : List ℕ) (at n : ℕ) (t t' : List (List ℕ)) {z : ℕ} (h : at + 2 ≤ length s) (p : z ≡ two_at s at) (q : z ≡ n) {r : Option ℕ} (b : BodiesBy r (rows_at body_at n s (at + 2)) (length s) t t') where
  pub rest_unbodied : r ≡ None → (vs : List (List ℕ)) → with_names s n (rows vs at) ≡ unformed
  rest_unbodied e vs = to_bodies s at n vs h p q ∙ ap (with_bodies s vs) (subst (λ (x : Option ℕ). BodiesBy x (rows_at body_at n s (at + 2)) (length s) t t') e b)

  module _ {j : ℕ} (e : r ≡ Some j) where
    the_bodies : Whole (λ ws. BodiesIn ws t t') (rows_at body_at n s (at + 2)) j (length s)
    the_bodies = whole _ _ _ _ (subst (λ (x : Option ℕ). BodiesBy x (rows_at body_at n s (at + 2)) (length s) t t') e b)

    pub rest_within : j ≤ length s
    rest_within = the_bodies.within

    pub rest_cut : length s < j + 2 → (vs : List (List ℕ)) → with_names s n (rows vs at) ≡ unformed
    rest_cut l vs = to_bodies s at n vs h p q ∙ ap (with_bodies s vs) the_bodies.shape ∙ rw (lt-ltb (length s) (j + 2) l)

    to_starts : {m : ℕ} → j + 2 ≤ length s → m ≡ two_at s j → (vs : List (List ℕ)) → with_names s n (rows vs at) ≡ with_starts s vs the_bodies.vs (rows_at start_at m s (j + 2))
    to_starts l g vs = to_bodies s at n vs h p q ∙ ap (with_bodies s vs) the_bodies.shape ∙ rw (le-ltb (length s) (j + 2) l, ← g)

    module _ (u' : List (List ℕ)) {m : ℕ} (l : j + 2 ≤ length s) (g : m ≡ two_at s j) {v : Option ℕ} (d : StartsBy v (rows_at start_at m s (j + 2)) (length s) u') where
      pub rest_unstarted : v ≡ None → (vs : List (List ℕ)) → with_names s n (rows vs at) ≡ unformed
      rest_unstarted x vs = to_starts l g vs ∙ ap (with_starts s vs the_bodies.vs) (subst (λ (y : Option ℕ). StartsBy y (rows_at start_at m s (j + 2)) (length s) u') x d)

      module _ {i : ℕ} (x : v ≡ Some i) where
        the_starts : Whole (λ us. StartsIn us u') (rows_at start_at m s (j + 2)) i (length s)
        the_starts = whole _ _ _ _ (subst (λ (y : Option ℕ). StartsBy y (rows_at start_at m s (j + 2)) (length s) u') x d)

        pub rest_longer : (i ≡ length s → ⊥) → (vs : List (List ℕ)) → with_names s n (rows vs at) ≡ unformed
        rest_longer y vs = to_starts l g vs ∙ ap (with_starts s vs the_bodies.vs) the_starts.shape ∙ rw (ne_eqb i (length s) y)

        pub rest_whole : {a c : ℕ} → i ≡ length s → a ≡ min n (length t') → c ≡ min m (length u') → length t' ≡ length t
            → (vs : List (List ℕ)) → NamesIn vs n t → FillsBoth (with_names s n (rows vs at)) t' u' a c
        rest_whole y aq cq len vs names =
            let B = the_bodies in
            let U = the_starts in
            let wn : length B.vs ≡ n = counted (subst (Counted n) B.shape (rows_counted body_at n s (at + 2))) in
            let un : length U.vs ≡ m = counted (subst (Counted m) U.shape (rows_counted start_at m s (j + 2))) in
            let vn = names.count in
            let en = entries_length vs B.vs (omega arith) in
            record {
              entries = entries_of vs B.vs;
              names = U.vs;
              shape = to_starts l g vs ∙ ap (with_starts s vs B.vs) U.shape ∙ rw (eq-eqb i (length s) y);
              table_is = record {
                within = omega arith;
                few = omega arith;
                all = λ k. omega arith;
                row = λ k o. B.holds k (omega arith) (omega arith)
                    ∙ entry_front (get_or t k []) (get_or vs k []) (get_or B.vs k []) (names.row k (omega arith) (omega arith))
                    ∙ sym (entries_row vs B.vs k (omega arith) (omega arith));
              };
              starts_are = record {
                within = omega arith;
                few = omega arith;
                all = λ k. omega arith;
                row = λ k o. U.holds k (omega arith) (omega arith);
              };
            }

-- what `parse` tells

pub parse_short : (s : List ℕ) → length s < 2 → input_of s ≡ unformed
unfolding input_of
parse_short s h = rw (lt-ltb (length s) 2 h)

to_names : (s : List ℕ) {n : ℕ} → 2 ≤ length s → n ≡ two_at s 0 → input_of s ≡ with_names s n (rows_at name_at n s 2)
unfolding input_of
to_names s h p = rw (le-ltb (length s) 2 h, ← p)

module _ (s : List ℕ) (t : List (List ℕ)) {n : ℕ} (h : 2 ≤ length s) (p : n ≡ two_at s 0) {r : Option ℕ} (b : NamesBy r (rows_at name_at n s 2) (length s) t) where
  pub parse_unnamed : r ≡ None → input_of s ≡ unformed
  parse_unnamed e = to_names s h p ∙ ap (with_names s n) (subst (λ (x : Option ℕ). NamesBy x (rows_at name_at n s 2) (length s) t) e b)

  module _ {i : ℕ} (e : r ≡ Some i) where
    the_names : Whole (λ vs. NamesIn vs (length vs) t) (rows_at name_at n s 2) i (length s)
    the_names = whole _ _ _ _ (subst (λ (x : Option ℕ). NamesBy x (rows_at name_at n s 2) (length s) t) e b)

    pub parse_within : i ≤ length s
    parse_within = the_names.within

    pub parse_whole : (w : Option (ℕ × ℕ)) (t' u' : List (List ℕ)) → ((vs : List (List ℕ)) → NamesIn vs n t → ParsedBy w (with_names s n (rows vs i)) t' u') → ParsedBy w (input_of s) t' u'
    parse_whole w t' u' f =
        let N = the_names in
        let c : length N.vs ≡ n = counted (subst (Counted n) N.shape (rows_counted name_at n s 2)) in
        subst (λ (x : Input). ParsedBy w x t' u') (sym (to_names s h p ∙ ap (with_names s n) N.shape))
        (f N.vs (subst (λ (x : ℕ). NamesIn N.vs x t) c N.holds))
