-- Records behind the first 256: they are zero and do not count, or no definitions leave them.
-- Assumes nothing.
use Prim.Native.Nat.{ℕ, zero, suc, ◌+◌, ◌-◌, ◌≤◌}
use mathlib.Core.Bool.{Bool, true, false, cond, ◌&&◌}
use mathlib.Core.List.{List, [], ◌∷◌, ◌++◌, map, append-nil}
use mathlib.Core.Path.{◌≡◌, refl, sym, ◌∙◌, ap}
use native.Mathlib.Omega.{arith}
use lib.Dec.{leb, ltb}
use lib.ListN.{length, take, drop, replicate, length-map, take-append-drop, drop_of_length-le}
use lib.Seq.{length-take-le, take-append-add, take-length}
use borrow.Author.Tests.{le-ltb, ltb-true, ltb-false}
use Rattle.lex.proofs.Tests.{true_false}
use Rattle.definition.specs.Definitions.{Macro}
use Rattle.packed.specs.Records.{blank_record, record_of}
use Rattle.store.specs.Buffers.{rows_from, padded}
use Rattle.store.proofs.Entries.{length_rows, length_padded}
use Rattle.genuine.specs.Layout.{is_four, is_blank, all_blank, all_zero, entry_fits, name_in, end_of, ends_there, left_from, left_in}
use Rattle.genuine.specs.Leaving.{LeftBy}
use Rattle.std.proofs.Common.{Option, Some, None}
use Rattle.genuine.proofs.Accepting.{left_complete}
use Rattle.records.specs.declared.Record.{Record}
use Rattle.records.specs.Records.{is_none, all_none, row_of, rows_of}
use Rattle.records.specs.Rows.{few}
use Rattle.records.proofs.Few.{few_least, few_above}
use Rattle.records.proofs.UpTo.{map_join}

abbrev blank_row : List ℕ → Bool
blank_row v = is_four v && is_blank (record_of v)

blank_join : (us vs : List (List ℕ)) → all_blank (us ++ vs) ≡ (all_blank us && all_blank vs)
unfolding all_blank
blank_join [] vs = refl
blank_join (u ∷ us) vs = go (blank_row u) (blank_join us vs)
  where
    go : (b : Bool) → all_blank (us ++ vs) ≡ (all_blank us && all_blank vs) → (b && all_blank (us ++ vs)) ≡ ((b && all_blank us) && all_blank vs)
    go true e = e
    go false e = refl

-- a zero record is a blank row
none_blank : (rs : List Record) → all_blank (rows_of rs) ≡ all_none rs
unfolding all_blank all_none
none_blank [] = refl
none_blank (r ∷ rs) = ap (λ (c : Bool). is_none r && c) (none_blank rs)

ends_blank : (n : ℕ) (b : List ℕ) (a : ℕ) (us vs : List (List ℕ)) → all_blank vs ≡ true → ends_there n b a (us ++ vs) ≡ ends_there n b a us
unfolding ends_there
ends_blank n b a us vs e = ap (λ (c : Bool). cond (c && all_zero (drop a b)) (Some n) None) (blank_join us vs ∙ go (all_blank us) (all_blank vs) e)
  where
    go : (x y : Bool) → y ≡ true → (x && y) ≡ x
    go true y e = e
    go false y e = refl

ends_foreign : (n : ℕ) (b : List ℕ) (a : ℕ) (us vs : List (List ℕ)) → all_blank vs ≡ false → ends_there n b a (us ++ vs) ≡ None
unfolding ends_there
ends_foreign n b a us vs e = ap (λ (c : Bool). cond (c && all_zero (drop a b)) (Some n) None) (blank_join us vs ∙ go (all_blank us) (all_blank vs) e)
  where
    go : (x y : Bool) → y ≡ false → (x && y) ≡ false
    go true y e = e
    go false y e = refl

both : (c : Bool) {x x' y y' : Option ℕ} → x ≡ x' → y ≡ y' → cond c x y ≡ cond c x' y'
both true e g = e
both false e g = g

same : (c : Bool) → ◌≡◌ {A = Option ℕ} (cond c None None) None
same true = refl
same false = refl

-- blank rows behind do not count
from_blank : (n : ℕ) (b : List ℕ) (a : ℕ) (w : List ℕ) (us vs : List (List ℕ)) → all_blank vs ≡ true
    → left_from n b a w (us ++ vs) ≡ left_from n b a w us
unfolding left_from all_blank
from_blank n b a w [] [] e = refl
from_blank n b a w [] (v ∷ vs) e = first (blank_row v) refl
  where
    is-blank : (c : Bool) → (c && all_blank vs) ≡ true → c ≡ true
    is-blank true g = refl
    is-blank false g = g

    first : (c : Bool) → blank_row v ≡ c
        → cond c (ends_there n b a (v ∷ vs)) (cond (ltb n 256 && (is_four v && entry_fits b a w (record_of v))) (left_from (suc n) b (end_of (record_of v)) (name_in b (record_of v)) vs) None) ≡ ends_there n b a []
    first true g = ends_blank n b a [] (v ∷ vs) e
    first false g = true_false (blank_row v) (is-blank (blank_row v) e) g
from_blank n b a w (u ∷ us) vs e =
    both (blank_row u) (ends_blank n b a (u ∷ us) vs e)
    (both (ltb n 256 && (is_four u && entry_fits b a w (record_of u))) (from_blank (suc n) b (end_of (record_of u)) (name_in b (record_of u)) us vs e) refl)

-- any other row behind 256 is foreign
from_foreign : (n : ℕ) (b : List ℕ) (a : ℕ) (w : List ℕ) (us vs : List (List ℕ)) → 256 ≤ n + length us → all_blank vs ≡ false
    → left_from n b a w (us ++ vs) ≡ None
unfolding left_from all_blank
from_foreign n b a w [] [] l e = true_false true refl e
from_foreign n b a w [] (v ∷ vs) l e =
    both (blank_row v) (ends_foreign n b a [] (v ∷ vs) e) (ap (λ (c : Bool). cond (c && (is_four v && entry_fits b a w (record_of v))) (left_from (suc n) b (end_of (record_of v)) (name_in b (record_of v)) vs) None) (le-ltb n 256 (omega arith)))
    ∙ same (blank_row v)
from_foreign n b a w (u ∷ us) vs l e =
    both (blank_row u) (ends_foreign n b a (u ∷ us) vs e)
    (both (ltb n 256 && (is_four u && entry_fits b a w (record_of u))) (from_foreign (suc n) b (end_of (record_of u)) (name_in b (record_of u)) us vs (omega arith) e) refl
    ∙ same (ltb n 256 && (is_four u && entry_fits b a w (record_of u))))
    ∙ same (blank_row u)

left_blank : (b : List ℕ) (us vs : List (List ℕ)) → all_blank vs ≡ true → left_in b (us ++ vs) ≡ left_in b us
unfolding left_in
left_blank b us vs e = both (leb (length b) 65536) (from_blank 0 b 0 [] us vs e) refl

left_foreign : (b : List ℕ) (us vs : List (List ℕ)) → 256 ≤ length us → all_blank vs ≡ false → left_in b (us ++ vs) ≡ None
unfolding left_in
left_foreign b us vs l e = both (leb (length b) 65536) (from_foreign 0 b 0 [] us vs (omega arith) e) refl ∙ same (leb (length b) 65536)

take_blanks : {A : Type 0} (z : A) (j k : ℕ) → j ≤ k → take j (replicate k z) ≡ replicate j z
take_blanks z zero k l = refl
take_blanks z (suc j) zero l = absurd (omega arith)
take_blanks z (suc j) (suc k) l = ap (λ zs. z ∷ zs) (take_blanks z j k (omega arith))

-- the front of a padded list
padded_front : {A : Type 0} (z : A) (k : ℕ) (rows l : List A) → rows ≡ padded z (length rows) l → length l ≤ k → k ≤ length rows
    → take k rows ≡ padded z k l
padded_front z k rows l e h g =
    let j : length l + (k - length l) ≡ k = omega arith in
    ap (take k) e
    ∙ ap (λ i. take i (padded z (length rows) l)) (sym j)
    ∙ take-append-add l (replicate (length rows - length l) z) (k - length l)
    ∙ ap (λ zs. l ++ zs) (take_blanks z (k - length l) (length rows - length l) (omega arith))

map_take : {A B : Type 0} (f : A → B) (k : ℕ) (l : List A) → map f (take k l) ≡ take k (map f l)
map_take f zero l = refl
map_take f (suc k) [] = refl
map_take f (suc k) (x ∷ l) = ap (λ zs. f x ∷ zs) (map_take f k l)

module _ (ys : List Record) where
  abbrev front : List Record
  front = take (few (length ys)) ys

  abbrev rest : List Record
  rest = drop 256 ys

  front_rest : ys ≡ front ++ rest
  front_rest = go (ltb (length ys) 256) refl
    where
      go : (c : Bool) → ltb (length ys) 256 ≡ c → ys ≡ take (cond c (length ys) 256) ys ++ drop 256 ys
      go true e =
          let l : length ys ≤ 256 = omega (arith, ltb-true (length ys) 256 e) in
          sym (ap (λ zs. take (length ys) ys ++ zs) (drop_of_length-le ys l) ∙ append-nil (take (length ys) ys) ∙ take-length ys)
      go false e = sym (take-append-drop 256 ys)

  rows_split : rows_of ys ≡ rows_of front ++ rows_of rest
  rows_split = ap rows_of front_rest ∙ map_join row_of front rest

  -- the rest is not zero only behind 256
  rest_behind : all_none rest ≡ false → 256 ≤ length ys
  unfolding all_none
  rest_behind e = go (ltb (length ys) 256) refl
    where
      go : (c : Bool) → ltb (length ys) 256 ≡ c → 256 ≤ length ys
      go true g =
          let l : length ys ≤ 256 = omega (arith, ltb-true (length ys) 256 g) in
          true_false true refl (sym (ap all_none (drop_of_length-le ys l)) ∙ e)
      go false g = ltb-false (length ys) 256 g

  front_long : length (rows_of front) ≡ few (length ys)
  front_long = length-map front row_of ∙ length-take-le (few (length ys)) ys (few_least (length ys))

  module _ (b : List ℕ) where
    -- macros that stand there stand in the front
    pub front_left : (ms : List Macro) → LeftBy ms b (rows_of ys) → LeftBy ms b (rows_of front)
    front_left ms k =
        let n : length (rows_of ys) ≡ length ys = length-map ys row_of in
        let l : length (rows_from 0 ms) ≡ length ms = length_rows 0 ms in
        let g : length ms ≤ few (length ys) = few_above (length ms) (length ys) (omega (arith, ap length k.holds.rows, length_padded blank_record (length (rows_of ys)) (rows_from 0 ms))) k.few in
        record {
          small = k.small;
          few = k.few;
          holds = record {
            bytes = k.holds.bytes;
            rows =
                map_take row_of (few (length ys)) ys
                ∙ padded_front blank_record (few (length ys)) (rows_of ys) (rows_from 0 ms) k.holds.rows (omega arith) (omega (arith, few_least (length ys)))
                ∙ ap (λ j. padded blank_record j (rows_from 0 ms)) (sym front_long);
            count = refl;
          };
          order = k.order;
          fit = k.fit;
        }

    pub front_foreign : all_none rest ≡ true → left_in b (rows_of ys) ≡ None → left_in b (rows_of front) ≡ None
    front_foreign e g =
        sym (left_blank b (rows_of front) (rows_of rest) (none_blank rest ∙ e)) ∙ ap (left_in b) (sym rows_split) ∙ g

    -- none stand there if the rest is not zero
    pub none_left : all_none rest ≡ false → (ms : List Macro) → LeftBy ms b (rows_of ys) → ⊥
    none_left e ms k =
        let l : 256 ≤ length (rows_of front) = rw front_long (few_above 256 (length ys) (rest_behind e) (omega arith)) in
        let z : left_in b (rows_of ys) ≡ None =
        ap (left_in b) rows_split ∙ left_foreign b (rows_of front) (rows_of rest) l (none_blank rest ∙ e) in
        let q : Some (length ms) ≡ None = sym (left_complete ms b (rows_of ys) k) ∙ z in
        let o : ◌≡◌ {A = ℕ} 0 1 = cc in
        omega arith
