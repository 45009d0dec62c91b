-- Where nothing bars a definition's tokens, nothing bars those further on: past a token, spacing, a default, a formal, its list.
-- Assumes nothing.
use Prim.Native.Nat.{ℕ, zero, suc, ◌+◌, ◌-◌, ◌<◌}
use mathlib.Core.Bool.{Bool, true, false, cond, ◌&&◌, ◌||◌}
use mathlib.Core.List.{List, [], ◌∷◌}
use mathlib.Core.Path.{◌≡◌, refl, ap, subst, ◌∙◌}
use native.Mathlib.Omega.{arith}
use lib.Dec.{eqb, leb, ltb}
use lib.ListN.{length, get_or}
use borrow.Author.Tests.{eqb-true, eqb-false}
use Rattle.std.specs.Prelude.{Result, Ok, Err}
use Rattle.lex.specs.Tokens.{in_definition, White, Newline, Name, Escaped, Quote, Byte, End, is, is_byte, is_gap, token_at, mode_after, tokens}
use Rattle.lex.specs.Faults.{no_fault, fault_of, worse_of, Unbarred, none, some}
use Rattle.lex.specs.declared.Fault.{Fault}
use Rattle.lex.specs.declared.Mode.{Mode}
use Rattle.lex.specs.declared.Token.{Token}
use Rattle.lex.proofs.Tests.{by_test, and_left, and_right, true_false}
use Rattle.lex.proofs.Listing.{tokens_next, by_tokens}
use Rattle.brackets.specs.Steps.{Step, on, done, torn}
use Rattle.definition.specs.Extents.{mark_of, extent_in, extent_at, bars_of, Free}
use Rattle.definition.specs.Heads.{gap_in, gap_end, next_at, open_at, head_by, head_at}
use Rattle.definition.specs.Lists.{Ending, step_at, by_step, default_in, default_end, given_formal, formal_by, formal_at, Formals, ill, whole, also, by_formal, formals_from, formals_at}
use Rattle.definition.specs.Definitions.{shape_by}
use Rattle.definition.specs.Answers.{FreeDefault}
use Rattle.definition.specs.declared.Extent.{Extent}
use Rattle.definition.specs.declared.Formal.{Formal}
use Rattle.definition.specs.declared.ReadError.{ReadError}
use Rattle.definition.specs.declared.Head.{Head}
use Rattle.definition.proofs.Formals.{kind_inside}
use Rattle.definition.proofs.Seeing.{token_seen, white_one, byte_one}

pub first_free : {t : Token} {ts : List Token} → Unbarred (t ∷ ts) → (t.bar ≡ 0) × Unbarred ts
first_free (some z u) = (z, u)

plain_mode : (m : Mode) (t : Token) → is Quote t ≡ false → mode_after m t ≡ m
plain_mode m t q = rw q

-- a quote mark tears a default
pub plain_step : (s : List ℕ) (t : Token) (ks : List ℕ) → (step_at s t ks ≡ torn → ⊥) → is Quote t ≡ false
unfolding step_at
plain_step s t ks f = go (is Quote t) refl
  where
    go : (b : Bool) → is Quote t ≡ b → b ≡ false
    go true q = absurd (f (rw q))
    go false q = refl

module _ (s : List ℕ) where
  -- past what is no quote mark
  past : (m : Mode) (i : ℕ) → i < length s → (m.define && is Newline (token_at m s i)) ≡ false → is Quote (token_at m s i) ≡ false → Unbarred (tokens m s i)
      → ((token_at m s i).bar ≡ 0) × Unbarred (tokens m s (token_at m s i).end)
  past m i l n q u =
      let t = token_at m s i in
      let e : tokens m s i ≡ t ∷ tokens m s t.end = tokens_next m s i l n ∙ ap (λ (r : Mode). t ∷ tokens r s t.end) (plain_mode m t q) in
      first_free (subst Unbarred e u)

  -- past a token of a kind that is neither a newline nor a quote mark
  pub kind_past : (i k : ℕ) → eqb End k ≡ false → eqb k Newline ≡ false → eqb k Quote ≡ false → is k (token_at in_definition s i) ≡ true → Free s i
      → ((token_at in_definition s i).bar ≡ 0) × Free s (token_at in_definition s i).end
  kind_past i k e n q h u =
      let t = token_at in_definition s i in
      let p : t.kind ≡ k = eqb-true t.kind k h in
      past in_definition i (kind_inside in_definition s i k e h) (ap (λ (k : ℕ). eqb k Newline) p ∙ n) (ap (λ (k : ℕ). eqb k Quote) p ∙ q) u

  gap_plain : (t : Token) → is_gap t ≡ true → is Quote t ≡ false
  gap_plain t g = go (is Quote t) refl
    where
      go : (b : Bool) → is Quote t ≡ b → b ≡ false
      go true q = let p : t.kind ≡ Quote = eqb-true t.kind Quote q in true_false (is_gap t) g (rw p)
      go false q = refl

  pub gap_past : (i : ℕ) → Free s i → Free s (gap_end s i)
  unfolding gap_end gap_in
  gap_past =
      by_tokens s (λ (m : Mode) (i : ℕ) (ts : List Token). Unbarred (tokens m s i) → Unbarred (tokens m s (gap_in i ts)))
      (λ m i l u. u) (λ m i l n u. u)
      (λ m i l n r u. let t = token_at m s i in
      let g = gap_in t.end (tokens (mode_after m t) s t.end) in
      by_test (λ (x : ℕ). Unbarred (tokens m s x)) (is_gap t)
      (λ e. subst (λ (k : Mode). Unbarred (tokens k s t.end) → Unbarred (tokens k s g)) (plain_mode m t (gap_plain t e)) r (past m i l n (gap_plain t e) u).1)
      (λ e. u)) in_definition

  -- past a default
  Ended : Mode → Ending → Type 0
  Ended m (Ok (e, x)) = Unbarred (tokens m s x)
  Ended m (Err e) = Unit {0}

  default_past : (m : Mode) (i : ℕ) (ks : List ℕ) → Unbarred (tokens m s i) → Ended m (default_in s ks (tokens m s i))
  unfolding Ended default_in
  default_past =
      by_tokens s (λ (m : Mode) (i : ℕ) (ts : List Token). (ks : List ℕ) → Unbarred (tokens m s i) → Ended m (default_in s ks ts))
      (λ m i l ks u. tt) (λ m i l n ks u. tt)
      (λ m i l n r ks u. go m i l n r ks u (step_at s (token_at m s i) ks) refl)
    where
      go : (m : Mode) (i : ℕ) → i < length s → (m.define && is Newline (token_at m s i)) ≡ false
          → ((ks : List ℕ) → Unbarred (tokens (mode_after m (token_at m s i)) s (token_at m s i).end) → Ended (mode_after m (token_at m s i)) (default_in s ks (tokens (mode_after m (token_at m s i)) s (token_at m s i).end)))
          → (ks : List ℕ) → Unbarred (tokens m s i) → (p : Step) → step_at s (token_at m s i) ks ≡ p
          → Ended m (by_step p (token_at m s i) (λ ks'. default_in s ks' (tokens (mode_after m (token_at m s i)) s (token_at m s i).end)))
      go m i l n r ks u (on ks') e =
          let t = token_at m s i in
          let q : is Quote t ≡ false = plain_step s t ks (λ z. let y : ◌≡◌ {A = ℕ} 0 1 = cc in omega arith) in
          let d = default_in s ks' (tokens (mode_after m t) s t.end) in
          subst (λ (k : Mode). Unbarred (tokens k s t.end) → Ended k d) (plain_mode m t q) (r ks') (past m i l n q u).1
      go m i l n r ks u done e = (past m i l n (plain_step s (token_at m s i) ks (λ z. let y : ◌≡◌ {A = ℕ} 0 1 = cc in omega arith)) u).1
      go m i l n r ks u torn e = tt

  -- a formal
  unfoldable pub FormalFree : Result Formal ReadError → Type 0
  FormalFree (Ok f) = FreeDefault s f × Free s f.next
  FormalFree (Err e) = Unit {0}

  given_free : (t : Token) (a : ℕ) → Free s a → (r : Ending) → default_end s a ≡ r → Ended in_definition r → FormalFree (given_formal s t a r)
  unfolding Ended FormalFree
  given_free t a v (Ok (x, y)) e u = (λ g. (v, e), u)
  given_free t a v (Err x) e u = tt

  either_left : (a b d : Bool) → ((a && b) || (a && d)) ≡ true → a ≡ true
  either_left true b d e = refl
  either_left false b d e = e

  formal-by : (t u : Token) → (is Byte u ≡ true → Free s u.end) → FormalFree (formal_by s t u)
  unfolding FormalFree default_end
  formal-by t u f =
      by_test FormalFree (is_byte s 61 u)
      (λ d. let v : Free s u.end = f (and_left (is Byte u) (eqb (get_or s u.at 0) 61) d) in
      given_free t u.end v (default_end s u.end) refl (default_past in_definition u.end [] v))
      (λ d. by_test FormalFree (is_byte s 44 u || is_byte s 41 u)
      (λ d. (λ g. true_false false g refl, f (either_left (is Byte u) (eqb (get_or s u.at 0) 44) (eqb (get_or s u.at 0) 41) d))) (λ d. tt))

  formal_free : (i : ℕ) → Free s i → FormalFree (formal_at s i)
  unfolding FormalFree formal_at
  formal_free i u =
      let t = next_at s i in
      by_test FormalFree (is Name t)
      (λ e. let p = kind_past (gap_end s i) Name refl refl refl e (gap_past i u) in
      formal-by t (next_at s t.end) (λ d. (kind_past (gap_end s t.end) Byte refl refl refl d (gap_past t.end p.1)).1))
      (λ e. tt)

  pub read_free : (i : ℕ) (f : Formal) → formal_at s i ≡ Ok f → Free s i → FreeDefault s f × Free s f.next
  unfolding FormalFree
  read_free i f e u = subst FormalFree e (formal_free i u)

  -- the formals of a list, and what stands behind it
  pub data AllFree : List Formal → Type 0 where
    empty : AllFree []
    more : {f : Formal} {fs : List Formal} → FreeDefault s f → AllFree fs → AllFree (f ∷ fs)

  unfoldable pub ListFree : Formals → Type 0
  ListFree ill = Unit {0}
  ListFree (whole fs x) = AllFree fs × Free s x

  also_free : (f : Formal) (r : Formals) → FreeDefault s f → ListFree r → ListFree (also f r)
  unfolding ListFree
  also_free f ill e h = tt
  also_free f (whole fs x) e h = (more e h.0, h.1)

  formal_then : (r : Result Formal ReadError) (go : ℕ → Formals) → FormalFree r → ((i : ℕ) → Free s i → ListFree (go i)) → ListFree (by_formal r go)
  unfolding FormalFree ListFree
  formal_then (Ok f) go h g =
      also_free f (cond f.last (whole [] f.next) (go f.next)) h.0
      (by_test ListFree f.last (λ e. (empty, h.1)) (λ e. g f.next h.1))
  formal_then (Err e) go h g = tt

  formals_from_lem : (n i : ℕ) → Free s i → ListFree (formals_from n s i)
  unfolding ListFree formals_from
  formals_from_lem zero i u = tt
  formals_from_lem (suc n) i u = formal_then (formal_at s i) (formals_from n s) (formal_free i u) (formals_from_lem n)

  formals_free : (i : ℕ) → Free s i → ListFree (formals_at s i)
  unfolding formals_at
  formals_free i u = formals_from_lem (suc (length s - i)) i u

  -- the shape of a head, behind which nothing bars
  pub shape_free : (h : Head) → (h.whole ≡ true → Free s h.next) → ListFree (shape_by s h)
  unfolding ListFree
  shape_free h u =
      by_test ListFree h.whole (λ w. by_test ListFree h.listed (λ l. formals_free h.next (u w)) (λ l. (empty, u w))) (λ w. tt)

  pub text_free : (h : Head) {fs : List Formal} {x : ℕ} → shape_by s h ≡ whole fs x → Free s h.next → Free s x
  unfolding ListFree
  text_free h e u = (subst ListFree e (shape_free h (λ w. u))).1

  -- a head
  white_past : (i : ℕ) → is White (token_at in_definition s i) ≡ true → Free s i → Free s (i + 1)
  white_past i e u =
      let l : i < length s = kind_inside in_definition s i White refl e in
      subst (Free s) (white_one (token_seen s i in_definition l) e) (kind_past i White refl refl refl e u).1

  byte_past : (i : ℕ) → is Byte (token_at in_definition s i) ≡ true → Free s i → Free s (i + 1)
  byte_past i e u =
      let l : i < length s = kind_inside in_definition s i Byte refl e in
      subst (Free s) (byte_one (token_seen s i in_definition l) e) (kind_past i Byte refl refl refl e u).1

  open_free : (t : Token) → Free s t.end → Free s (open_at s t)
  unfolding open_at
  open_free t u =
      let w = is White (token_at in_definition s t.end) in
      by_test (Free s) (is Escaped t && w) (λ e. white_past t.end (and_right (is Escaped t) w e) u) (λ e. u)

  abbrev HeadFree : Head → Type 0
  HeadFree h = h.whole ≡ true → Free s h.next

  head-by : (t : Token) → Free s t.end → HeadFree (head_by s t)
  head-by t u =
      let o = token_at in_definition s (open_at s t) in
      by_test HeadFree (is_byte s 40 o)
      (λ e w. byte_past (open_at s t) (and_left (is Byte o) (eqb (get_or s o.at 0) 40) e) (open_free t u)) (λ e w. u)

  named-by : (a : ℕ) → Free s a → (b d : Bool) → is Name (token_at in_definition s a) ≡ b → is Escaped (token_at in_definition s a) ≡ d → (b || d) ≡ true
      → HeadFree (head_by s (token_at in_definition s a))
  named-by a u true d p q e = head-by (token_at in_definition s a) (kind_past a Name refl refl refl p u).1
  named-by a u false true p q e = head-by (token_at in_definition s a) (kind_past a Escaped refl refl refl q u).1
  named-by a u false false p q e = true_false false e refl

  pub head_free : (i : ℕ) → Free s i → (head_at s i).whole ≡ true → Free s (head_at s i).next
  unfolding head_at
  head_free i u =
      by_test HeadFree (is Name (next_at s i) || is Escaped (next_at s i)) (named-by (gap_end s i) (gap_past i u) (is Name (next_at s i)) (is Escaped (next_at s i)) refl refl)
      (λ e w. true_false false w refl)

-- of two refusals the worse is none only if both are
worse_none : (f g : Fault) → (worse_of f g).number ≡ 0 → (f.number ≡ 0) × (g.number ≡ 0)
worse_none f g =
    by_test P (eqb g.number 0) (λ p z. (z, eqb-true g.number 0 p))
    (λ p. by_test P (eqb f.number 0) (λ q z. absurd (eqb-false g.number 0 p z))
    (λ q. by_test P (ltb g.number f.number) (λ r z. absurd (eqb-false g.number 0 p z)) (λ r z. absurd (eqb-false f.number 0 q z))))
  where
    P : Fault → Type 0
    P r = r.number ≡ 0 → (f.number ≡ 0) × (g.number ≡ 0)

bars_none : (w : Extent) (x : ℕ) → (bars_of w x).number ≡ 0 → w.bars.number ≡ 0
unfolding bars_of
bars_none w x =
    by_test P (leb x w.mark.place) (λ e z. z)
    (λ e. by_test P (ltb w.bars.place w.mark.place) (λ e z. (worse_none w.bars w.mark z).0) (λ e z. (worse_none w.mark w.bars z).1))
  where
    P : Fault → Type 0
    P f = f.number ≡ 0 → w.bars.number ≡ 0

extent_free : (e : ℕ) (b k : Fault) (ts : List Token) → (extent_in e b k ts).bars.number ≡ 0 → (b.number ≡ 0) × Unbarred ts
unfolding extent_in
extent_free e b k [] z = (z, none)
extent_free e b k (t ∷ ts) z =
    let r = extent_free t.end (worse_of b (fault_of t)) (mark_of k t) ts z in
    let w = worse_none b (fault_of t) r.0 in
    (w.0, some w.1 r.1)

-- a definition that nothing bars
pub unbarred_free : (s : List ℕ) (i x : ℕ) → (bars_of (extent_at s i) x).number ≡ 0 → Free s i
unfolding extent_at
unbarred_free s i x z = (extent_free i no_fault no_fault (tokens in_definition s i) (bars_none (extent_at s i) x z)).1
