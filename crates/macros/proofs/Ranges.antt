-- The ranges of start macros, as the code walks them: names, repeats, sizes.
-- Assumes nothing.
use mathlib.Core.Path.{◌≡◌, refl, sym, ap, ◌∙◌}
use mathlib.Core.Bool.{Bool, true, false, cond, not, ◌&&◌, ◌||◌}
use mathlib.Core.List.{List, [], ◌∷◌}
use Prim.Native.Nat.{ℕ, zero, suc, ◌+◌, ◌-◌, ◌≤◌, ◌<◌}
use native.Mathlib.Numerals.{add-one}
use native.Mathlib.Omega.{arith}
use borrow.Author.Tests.{ne_eqb, eq-eqb, lt-ltb, lt-leb, le-leb, not-true, not-false}
use lib.Dec.{eqb, ltb}
use lib.ListN.{length, drop, get_or, length-take, drop_of_length-le}
use lib.Seq.{drop-cons}
use Rattle.std.specs.List.{list_any}
use Rattle.text.specs.Bytes.{same, part}
use Rattle.lex.specs.Tokens.{in_file, Name, Escaped, is, token_at}
use Rattle.lex.specs.declared.Mode.{Mode}
use Rattle.lex.specs.declared.Token.{Token}
use Rattle.names.specs.Names.{directive_of}
use Rattle.macros.specs.Looking.{plainly}
use Rattle.macros.specs.Starting.{is_start_name, range_end, range_of, named_among, is_start, all_starts, starts_size}

-- ---- a name, by its token as the code reads it

none_directive : (d : ℕ) → eqb d 0 ≡ not (ltb 0 d)
none_directive zero = refl
none_directive (suc d) = ne_eqb (suc d) 0 (λ e. omega arith) ∙ sym (ap not (lt-ltb 0 (suc d) (omega arith)))

module _ (w : List ℕ) {m : Mode} {t : Token} (f : m ≡ in_file) (e : t ≡ token_at m w 0) where
  read : token_at in_file w 0 ≡ t
  read = ap (λ (x : Mode). token_at x w 0) (sym f) ∙ sym e

  pub other_token : not (is Name t || is Escaped t) ≡ true → false ≡ is_start_name w
  unfolding is_start_name
  other_token k = rw (read, not-true (is Name t || is Escaped t) k)

  module _ (k : not (is Name t || is Escaped t) ≡ false) where
    pub barred_token : (t.bar ≡ 0 → ⊥) → false ≡ is_start_name w
    unfolding is_start_name
    barred_token n = rw (read, not-false (is Name t || is Escaped t) k, ne_eqb t.bar 0 n)

    module _ (z : t.bar ≡ 0) where
      pub short_token : (t.end ≡ length w → ⊥) → false ≡ is_start_name w
      unfolding is_start_name
      short_token n = rw (read, not-false (is Name t || is Escaped t) k, eq-eqb t.bar 0 z, ne_eqb t.end (length w) n)

      pub whole_token : t.end ≡ length w → {v : List ℕ} {d : ℕ} → v ≡ plainly w → d ≡ directive_of v → eqb d 0 ≡ is_start_name w
      unfolding is_start_name
      whole_token n {v} {d} p q =
          none_directive d
          ∙ ap (λ (x : ℕ). not (ltb 0 x)) (q ∙ ap directive_of p)
          ∙ rw (read, not-false (is Name t || is Escaped t) k, eq-eqb t.bar 0 z, eq-eqb t.end (length w) n)

-- ---- the ranges from i on

or_cond : (b : Bool) {x y : Bool} → x ≡ y → (b || x) ≡ cond b true y
or_cond true e = refl
or_cond false e = e

pub among_any : (s w : List ℕ) (vs : List (List ℕ)) → list_any (λ (v : List ℕ). same w (plainly (range_of s v))) vs ≡ named_among s w vs
unfolding named_among
among_any s w [] = refl
among_any s w (v ∷ vs) = or_cond (same w (plainly (range_of s v))) (among_any s w vs)

module _ (s : List ℕ) (vs : List (List ℕ)) (i : ℕ) where
  pub starts_out : length vs ≤ i → all_starts s (drop i vs) ≡ true
  unfolding all_starts
  starts_out h = rw (drop_of_length-le vs)

  pub size_out : length vs ≤ i → starts_size s (drop i vs) ≡ 0
  unfolding starts_size
  size_out h = rw (drop_of_length-le vs)

  module _ (l : i < length vs) where
    pub first_range : drop i vs ≡ get_or vs i [] ∷ drop (i + 1) vs
    first_range = rw (add-one i) (drop-cons vs i [] l)

    -- x: range i; y: its name
    module _ {x y : List ℕ} (p : x ≡ range_of s (get_or vs i [])) (q : y ≡ plainly x) where
      name-at : plainly (range_of s (get_or vs i [])) ≡ y
      name-at = ap plainly (sym p) ∙ sym q

      pub size_more : starts_size s (drop i vs) ≡ length y + 1 + starts_size s (drop (i + 1) vs)
      unfolding starts_size
      size_more = rw (first_range, name-at)

    module _ {b : Bool} (e : b ≡ is_start s (get_or vs i []) (drop (i + 1) vs)) where
      starts_by : (x : Bool) → b ≡ x → all_starts s (drop i vs) ≡ (x && all_starts s (drop (i + 1) vs))
      unfolding all_starts
      starts_by x a = ap (all_starts s) first_range ∙ ap (λ (y : Bool). y && all_starts s (drop (i + 1) vs)) (sym e ∙ a)

      pub starts_none : b ≡ false → all_starts s (drop i vs) ≡ false
      starts_none a = starts_by false a

      pub starts_more : b ≡ true → all_starts s (drop i vs) ≡ all_starts s (drop (i + 1) vs)
      starts_more a = starts_by true a

-- ---- a range

pub range_small : (s : List ℕ) (a b : ℕ) {x : List ℕ} → x ≡ part s a (a + b) → b < 4294967296 → length x < 4294967296
range_small s a b e h = omega (arith, ap length e ∙ length-take (a + b - a) (drop a s))

module _ (s v : List ℕ) (vs : List (List ℕ)) where
  pub past_store : {k : ℕ} → k ≡ range_end v → length s < k → false ≡ is_start s v vs
  past_store e l = rw (lt-leb (range_end v) (length s) (omega (arith, e)))

  module _ {k : ℕ} (e : k ≡ range_end v) (l : k ≤ length s) {x : List ℕ} (p : x ≡ range_of s v) {b : Bool} (q : b ≡ is_start_name x) where
    pub no_name : not b ≡ true → false ≡ is_start s v vs
    no_name a = rw (le-leb (range_end v) (length s) (omega (arith, e)), ← p, ← q, not-true b a)

    pub new_name : not b ≡ false → {y : List ℕ} → y ≡ plainly x → {r : Bool} → r ≡ named_among s y vs → not r ≡ is_start s v vs
    new_name a {y} g {r} h =
        ap not (h ∙ ap (λ (n : List ℕ). named_among s n vs) g)
        ∙ rw (le-leb (range_end v) (length s) (omega (arith, e)), ← p, ← q, not-false b a)
