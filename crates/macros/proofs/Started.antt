-- The start macros: how many they are and how many bytes they take, one after the other; they are fit, in byte order.
-- Assumes nothing.
use Prim.Native.Nat.{ℕ, zero, suc, ◌+◌, ◌≤◌, ◌<◌}
use native.Mathlib.Nat.{not-suc-le-zero, le_of_suc-le-suc}
use native.Mathlib.Numerals.{add-one}
use native.Mathlib.Omega.{arith}
use mathlib.Core.Bool.{Bool, true, false, not, ◌&&◌}
use mathlib.Core.List.{List, [], ◌∷◌, ◌++◌}
use mathlib.Core.Path.{◌≡◌, refl, sym, ap, ◌∙◌}
use lib.Dec.{leb}
use lib.ListN.{length, take, get_or, length-append, length-take}
use lib.Seq.{take-suc, take_all, length-take-le}
use borrow.Author.Tests.{leb-true, le-leb, not-true}
use Rattle.text.specs.Bytes.{same}
use Rattle.text.proofs.Matching.{same_self}
use Rattle.lex.proofs.Tests.{and_left, and_right, true_false}
use Rattle.definition.specs.Definitions.{Macro, macro}
use Rattle.form.specs.Forms.{parameter_forms, head_form, form_of}
use Rattle.store.specs.Stores.{macro_name, macro_at, Ascending, find, define, encode, fits, no_macro}
use Rattle.std.proofs.Common.{Result, Ok, Err}
use Rattle.store.proofs.Ordering.{find_at_name, find_at_lt, define_at, define_ascends, define_new_length}
use Rattle.store.proofs.Rooms.{encode_insert_long}
use Rattle.genuine.specs.Fitness.{all_fit}
use Rattle.genuine.proofs.Tests.{passed}
use Rattle.genuine.proofs.Empties.{empty_fit}
use Rattle.macros.specs.Looking.{plainly}
use Rattle.macros.specs.Starting.{is_start_name, range_end, range_of, named_among, is_start, all_starts, empty_macro, started_from, started, starts_size, starts_fit}
use Rattle.macros.proofs.Each.{Each, each_none, each_at, each_so, each_define, define_fit}
use Rattle.macros.proofs.StartNames.{start_name_fit, fit_short}

-- a macro defined empty is its name and a byte 0
empty_long : (n : List ℕ) → length (form_of (macro n [] [])) ≡ length n + 1
unfolding form_of head_form parameter_forms
empty_long n = simp length-append (omega arith)

-- so many macros and bytes more
record Grown (m : Macro) (ms : List Macro) : Type 0 where
  count : length (define m ms) ≡ suc (length ms)
  size : length (encode (define m ms)) ≡ length (encode ms) + length (form_of m)

module _ (s : List ℕ) where
  -- what a range of a start macro shows
  record Starting (v : List ℕ) (vs : List (List ℕ)) : Type 0 where
    name : is_start_name (range_of s v) ≡ true
    once : named_among s (plainly (range_of s v)) vs ≡ false

  starting : (v : List ℕ) (vs : List (List ℕ)) → is_start s v vs ≡ true → Starting v vs
  starting v vs e =
      let l = leb (range_end v) (length s) in
      let n = is_start_name (range_of s v) in
      let k = named_among s (plainly (range_of s v)) vs in
      let p : (n && not k) ≡ true = and_right l (n && not k) e in
      record { name = and_left n (not k) p; once = not-true k (and_right n (not k) p) }

  first_starting : (v : List ℕ) (vs : List (List ℕ)) → all_starts s (v ∷ vs) ≡ true → Starting v vs
  unfolding all_starts
  first_starting v vs e = starting v vs (and_left (is_start s v vs) (all_starts s vs) e)

  rest_starting : (v : List ℕ) (vs : List (List ℕ)) → all_starts s (v ∷ vs) ≡ true → all_starts s vs ≡ true
  unfolding all_starts
  rest_starting v vs e = and_right (is_start s v vs) (all_starts s vs) e

  -- none of the ranges has the name of a macro
  abbrev Unlike : List (List ℕ) → Macro → Type 0
  Unlike vs m = named_among s (macro_name m) vs ≡ false

  unlike_rest : (v : List ℕ) (vs : List (List ℕ)) (m : Macro) → Unlike (v ∷ vs) m → Unlike vs m
  unfolding named_among
  unlike_rest v vs m h = (passed (same (macro_name m) (plainly (range_of s v))) (named_among s (macro_name m) vs) h).1

  unlike_first : (v : List ℕ) (vs : List (List ℕ)) (m : Macro) → Unlike (v ∷ vs) m → macro_name m ≡ plainly (range_of s v) → ⊥
  unfolding named_among
  unlike_first v vs m h e =
      let w = plainly (range_of s v) in
      true_false (same (macro_name m) w) (ap (λ (n : List ℕ). same n w) e ∙ same_self w) (passed (same (macro_name m) w) (named_among s (macro_name m) vs) h).0

  -- so its definition is new
  grown : (v : List ℕ) (vs : List (List ℕ)) (ms : List Macro) → Each (Unlike (v ∷ vs)) ms → Grown (empty_macro (range_of s v)) ms
  grown v vs ms h = go (find (plainly (range_of s v)) ms) refl
    where
      go : (f : Result ℕ ℕ) → find (plainly (range_of s v)) ms ≡ f → Grown (empty_macro (range_of s v)) ms
      go (Ok i) e =
          let w = plainly (range_of s v) in
          absurd (unlike_first v vs (macro_at ms i) (each_at (Unlike (v ∷ vs)) ms i no_macro (find_at_lt w ms e) h) (find_at_name w ms e))
      go (Err i) e =
          let m = empty_macro (range_of s v) in
          record {
            count = define_new_length m ms e;
            size = ap (λ (l : List Macro). length (encode l)) (define_at m ms (Err i) e) ∙ encode_insert_long i ms m;
          }

  next_unlike : (v : List ℕ) (vs : List (List ℕ)) (ms : List Macro) → Starting v vs → Each (Unlike (v ∷ vs)) ms → Each (Unlike vs) (define (empty_macro (range_of s v)) ms)
  next_unlike v vs ms k h =
      each_define (Unlike vs) (empty_macro (range_of s v)) ms k.once (each_so (Unlike (v ∷ vs)) (Unlike vs) (unlike_rest v vs) ms h)

  -- ---- how many there are

  -- those of the ranges, behind macros that have none of their names
  record Added (vs : List (List ℕ)) (ms : List Macro) : Type 0 where
    count : length (started_from s vs ms) ≡ length ms + length vs
    size : length (encode (started_from s vs ms)) ≡ length (encode ms) + starts_size s vs

  added : (vs : List (List ℕ)) (ms : List Macro) → all_starts s vs ≡ true → Each (Unlike vs) ms → Added vs ms
  unfolding started_from starts_size
  added [] ms a h = record { count = omega arith; size = omega arith }
  added (v ∷ vs) ms a h =
      let w = plainly (range_of s v) in
      let m : Macro = empty_macro (range_of s v) in
      let g : Grown m ms = grown v vs ms h in
      let l : length (form_of m) ≡ length w + 1 = empty_long w in
      let r : Added vs (define m ms) = added vs (define m ms) (rest_starting v vs a) (next_unlike v vs ms (first_starting v vs a) h) in
      record { count = omega arith; size = omega arith }

  pub started_length : (vs : List (List ℕ)) → all_starts s vs ≡ true → length (started s vs) ≡ length vs
  started_length vs a = (added vs [] a (each_none (Unlike vs))).count ∙ omega arith

  pub started_size : (vs : List (List ℕ)) → all_starts s vs ≡ true → length (encode (started s vs)) ≡ starts_size s vs
  unfolding encode
  started_size vs a = (added vs [] a (each_none (Unlike vs))).size ∙ omega arith

  -- whether they fit, told by the ranges
  pub starts_fit_is : (records bytes : ℕ) (vs : List (List ℕ))
      → starts_fit records bytes s vs ≡ all_starts s vs && (leb (length vs) 256 && (leb (length vs) records && leb (starts_size s vs) bytes))
  unfolding starts_fit fits
  starts_fit_is records bytes vs = go (all_starts s vs) refl
    where
      go : (b : Bool) → all_starts s vs ≡ b
          → b && (leb (length (started s vs)) 256 && (leb (length (started s vs)) records && leb (length (encode (started s vs))) bytes))
          ≡ b && (leb (length vs) 256 && (leb (length vs) records && leb (starts_size s vs) bytes))
      go true a = rw (started_length vs a, started_size vs a)
      go false a = refl

  pub fit_starts : (records bytes : ℕ) (vs : List (List ℕ)) → starts_fit records bytes s vs ≡ true → all_starts s vs ≡ true
  unfolding starts_fit
  fit_starts records bytes vs h = and_left (all_starts s vs) (fits records bytes (started s vs)) h

  -- ---- a front of the ranges

  unlike_front : (w : List ℕ) (i : ℕ) (vs : List (List ℕ)) → named_among s w vs ≡ false → named_among s w (take i vs) ≡ false
  unfolding named_among
  unlike_front w zero [] h = refl
  unlike_front w zero (v ∷ vs) h = refl
  unlike_front w (suc i) [] h = refl
  unlike_front w (suc i) (v ∷ vs) h =
      let p = passed (same w (plainly (range_of s v))) (named_among s w vs) h in
      rw p.0 (unlike_front w i vs p.1)

  start_front : (v : List ℕ) (i : ℕ) (vs : List (List ℕ)) → is_start s v vs ≡ true → is_start s v (take i vs) ≡ true
  start_front v i vs e =
      let k = starting v vs e in
      let l = is_start_name (range_of s v) && not (named_among s (plainly (range_of s v)) vs) in
      rw (and_left (leb (range_end v) (length s)) l e, k.name, unlike_front (plainly (range_of s v)) i vs k.once)

  starts_front : (i : ℕ) (vs : List (List ℕ)) → all_starts s vs ≡ true → all_starts s (take i vs) ≡ true
  unfolding all_starts
  starts_front zero [] a = refl
  starts_front zero (v ∷ vs) a = refl
  starts_front (suc i) [] a = refl
  starts_front (suc i) (v ∷ vs) a =
      rw (start_front v i vs (and_left (is_start s v vs) (all_starts s vs) a)) (starts_front i vs (and_right (is_start s v vs) (all_starts s vs) a))

  size_front : (i : ℕ) (vs : List (List ℕ)) → starts_size s (take i vs) ≤ starts_size s vs
  unfolding starts_size
  size_front zero [] = omega arith
  size_front zero (v ∷ vs) = omega arith
  size_front (suc i) [] = omega arith
  size_front (suc i) (v ∷ vs) = omega (arith, size_front i vs)

  -- all fit, so each front does
  pub front_fits : (records bytes : ℕ) (vs : List (List ℕ)) → starts_fit records bytes s vs ≡ true → (i : ℕ) → fits records bytes (started s (take i vs)) ≡ true
  unfolding fits
  front_fits records bytes vs h i =
      let a : all_starts s vs ≡ true = fit_starts records bytes vs h in
      let q = leb (length vs) records && leb (starts_size s vs) bytes in
      let p : (leb (length vs) 256 && q) ≡ true = and_right (all_starts s vs) (leb (length vs) 256 && q) (sym (starts_fit_is records bytes vs) ∙ h) in
      let r : q ≡ true = and_right (leb (length vs) 256) q p in
      let x = leb-true (length vs) 256 (and_left (leb (length vs) 256) q p) in
      let y = leb-true (length vs) records (and_left (leb (length vs) records) (leb (starts_size s vs) bytes) r) in
      let z = leb-true (starts_size s vs) bytes (and_right (leb (length vs) records) (leb (starts_size s vs) bytes) r) in
      let f = starts_front i vs a in
      let n = length-take i vs in
      let k = size_front i vs in
      rw (
        started_length (take i vs) f,
        started_size (take i vs) f,
        le-leb (length (take i vs)) 256 (omega arith),
        le-leb (length (take i vs)) records (omega arith),
        le-leb (starts_size s (take i vs)) bytes (omega arith),
      )

  pub front_length : (i : ℕ) (vs : List (List ℕ)) → all_starts s vs ≡ true → i ≤ length vs → length (started s (take i vs)) ≡ i
  front_length i vs a h = started_length (take i vs) (starts_front i vs a) ∙ length-take-le i vs h

  join : (a b : List (List ℕ)) (ms : List Macro) → started_from s (a ++ b) ms ≡ started_from s b (started_from s a ms)
  unfolding started_from
  join [] b ms = refl
  join (v ∷ a) b ms = join a b (define (empty_macro (range_of s v)) ms)

  -- none, one more, all
  pub front_none : (vs : List (List ℕ)) → started s (take 0 vs) ≡ []
  unfolding started_from
  front_none vs = refl

  pub front_next : (vs : List (List ℕ)) (i : ℕ) → i < length vs
      → started s (take (i + 1) vs) ≡ define (empty_macro (range_of s (get_or vs i []))) (started s (take i vs))
  unfolding started_from
  front_next vs i h =
      let e : take (i + 1) vs ≡ take i vs ++ (get_or vs i [] ∷ []) = rw add-one (take-suc vs i [] h) in
      ap (λ (l : List (List ℕ)). started s l) e ∙ join (take i vs) (get_or vs i [] ∷ []) []

  pub front_all : (vs : List (List ℕ)) (i : ℕ) → length vs ≤ i → started s (take i vs) ≡ started s vs
  front_all vs i h = ap (λ (l : List (List ℕ)). started s l) (take_all i vs h)

  -- the name of each is short
  pub start_short : (vs : List (List ℕ)) (i : ℕ) → i < length vs → all_starts s vs ≡ true → length (plainly (range_of s (get_or vs i []))) ≤ 1024
  start_short [] i h a = absurd (not-suc-le-zero h)
  start_short (v ∷ vs) zero h a = fit_short (plainly (range_of s v)) (start_name_fit (range_of s v) (first_starting v vs a).name)
  start_short (v ∷ vs) (suc i) h a = start_short vs i (le_of_suc-le-suc h) (rest_starting v vs a)

  -- ---- they are in byte order and fit

  from_ascends : (vs : List (List ℕ)) (ms : List Macro) → Ascending ms → Ascending (started_from s vs ms)
  unfolding started_from
  from_ascends [] ms h = h
  from_ascends (v ∷ vs) ms h = from_ascends vs (define (empty_macro (range_of s v)) ms) (define_ascends (empty_macro (range_of s v)) ms h)

  pub started_ascends : (vs : List (List ℕ)) → Ascending (started s vs)
  started_ascends vs = from_ascends vs [] tt

  from_fit : (vs : List (List ℕ)) (ms : List Macro) → all_starts s vs ≡ true → all_fit ms ≡ true → all_fit (started_from s vs ms) ≡ true
  unfolding started_from
  from_fit [] ms a h = h
  from_fit (v ∷ vs) ms a h =
      from_fit vs (define (empty_macro (range_of s v)) ms) (rest_starting v vs a)
      (define_fit (empty_macro (range_of s v)) ms (empty_fit (plainly (range_of s v)) (start_name_fit (range_of s v) (first_starting v vs a).name)) h)

  pub started_fit : (vs : List (List ℕ)) → all_starts s vs ≡ true → all_fit (started s vs) ≡ true
  unfolding all_fit
  started_fit vs a = from_fit vs [] a refl
