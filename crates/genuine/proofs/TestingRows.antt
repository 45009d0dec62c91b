-- The records of a list one after another, as they are read, and what stands behind the last macro.
-- Assumes nothing.
use Prim.Native.Nat.{ℕ, suc, ◌+◌, ◌≤◌, ◌<◌}
use mathlib.Core.Bool.{Bool, true, false, not, ◌&&◌}
use mathlib.Core.List.{List, []}
use mathlib.Core.Path.{◌≡◌, sym, ap, ◌∙◌}
use native.Mathlib.Numerals.{add-one}
use native.Mathlib.Omega.{arith}
use lib.ListN.{length, drop, get_or, drop_of_length-le}
use lib.Seq.{drop-cons}
use borrow.Author.Tests.{not-true, not-false, eq-eqb, lt-ltb, le-ltb, le-leb, lt-leb}
use Rattle.text.specs.Bytes.{part}
use Rattle.packed.specs.Records.{blank_record, record_of, RecordIs}
use Rattle.packed.specs.declared.Record.{Record}
use Rattle.genuine.specs.Layout.{is_blank, is_four, all_blank, all_zero, ends_there, left_from, left_in, entry_fits, end_of, name_in}
use Rattle.std.proofs.Common.{Option, Some, None}
use Rattle.genuine.proofs.Testing.{no, yes}

module _ {v : List ℕ} {r : Record} (h : RecordIs v r) where
  pub row_four : is_four v ≡ true
  row_four = eq-eqb (length v) 4 h.four

  pub row_told : (is_four v && is_blank (record_of v)) ≡ is_blank r
  row_told = rw (row_four) (ap is_blank (sym h.value))

  module _ {b : Bool} (e : b ≡ is_blank r) where
    pub row_other : not b ≡ true → (is_four v && is_blank (record_of v)) ≡ false
    row_other t = row_told ∙ no e t

    pub row_blank : not b ≡ false → (is_four v && is_blank (record_of v)) ≡ true
    row_blank t = row_told ∙ yes e t

-- what stands behind the last macro
module _ (n : ℕ) (b : List ℕ) (at : ℕ) (vs : List (List ℕ)) {f : Bool} (t : f ≡ all_blank vs) where
  pub rows_behind : not f ≡ true → None ≡ ends_there n b at vs
  unfolding ends_there
  rows_behind k = rw (no t k)

  module _ (y : not f ≡ false) {g : Bool} (u : g ≡ all_zero (drop at b)) where
    pub bytes_behind : not g ≡ true → None ≡ ends_there n b at vs
    unfolding ends_there
    bytes_behind k = rw (yes t y, no u k)

    pub none_behind : not g ≡ false → Some n ≡ ends_there n b at vs
    unfolding ends_there
    none_behind k = rw (yes t y, yes u k)

-- the record after n macros
module _ (n : ℕ) (b : List ℕ) (at : ℕ) (w : List ℕ) (rows : List (List ℕ)) where
  pub take_end : n ≡ length rows → {x : Option ℕ} → x ≡ ends_there (length rows) b at (drop (length rows) rows) → x ≡ left_from n b at w (drop n rows)
  unfolding left_from
  take_end q e =
      let h : length rows ≤ n = omega arith in
      e ∙ ap (λ (k : ℕ). ends_there k b at (drop k rows)) (sym q) ∙ rw (drop_of_length-le rows h)

  module _ (l : n < length rows) {r : Record} (h : RecordIs (get_or rows n blank_record) r) {t : Bool} (e : t ≡ is_blank r) where
    four_blank : (is_four (get_or rows n blank_record) && is_blank (record_of (get_or rows n blank_record))) ≡ t
    four_blank = row_told h ∙ sym e

    pub take_blank : t ≡ true → {x : Option ℕ} → x ≡ ends_there n b at (drop n rows) → x ≡ left_from n b at w (drop n rows)
    unfolding left_from
    take_blank q z = z ∙ rw (drop-cons rows n blank_record l, four_blank ∙ q)

    module _ (q : t ≡ false) where
      pub take_many : 256 ≤ n → None ≡ left_from n b at w (drop n rows)
      unfolding left_from
      take_many k = rw (drop-cons rows n blank_record l, four_blank ∙ q, le-ltb n 256 k)

      module _ (k : n < 256) {f : Bool} (g : f ≡ entry_fits b at w r) where
        entry_row : entry_fits b at w (record_of (get_or rows n blank_record)) ≡ f
        entry_row = sym (ap (entry_fits b at w) h.value) ∙ sym g

        pub take_odd : not f ≡ true → None ≡ left_from n b at w (drop n rows)
        unfolding left_from
        take_odd z = rw (drop-cons rows n blank_record l, four_blank ∙ q, lt-ltb n 256 k, row_four h, entry_row ∙ not-true f z)

        pub take_next : not f ≡ false → left_from (n + 1) b (r.text + r.size) (part b r.start (r.start + r.name)) (drop (n + 1) rows) ≡ left_from n b at w (drop n rows)
        unfolding left_from
        take_next z =
            rw (drop-cons rows n blank_record l, four_blank ∙ q, lt-ltb n 256 k, row_four h, entry_row ∙ not-false f z, add-one)
            (ap (λ (x : Record). left_from (suc n) b (end_of x) (name_in b x) (drop (suc n) rows)) h.value)

-- a whole store
module _ (b : List ℕ) (rows : List (List ℕ)) where
  pub store_over : 65536 < length b → None ≡ left_in b rows
  unfolding left_in
  store_over h = rw (lt-leb (length b) 65536 h)

  pub store_by : length b ≤ 65536 → {x : Option ℕ} → x ≡ left_from 0 b 0 [] rows → x ≡ left_in b rows
  unfolding left_in
  store_by h e = rw (le-leb (length b) 65536 h) e
