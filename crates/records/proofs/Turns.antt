-- The lists between the turns of `clear`, `fill` and `rest_is_zero`.
-- Assumes nothing.
use Prim.Native.Nat.{ℕ, suc, ◌+◌, ◌-◌, ◌<◌, ◌≤◌}
use mathlib.Core.Bool.{Bool, true, false, ◌&&◌}
use mathlib.Core.List.{List}
use mathlib.Core.Path.{◌≡◌, refl, ◌∙◌, ap, subst}
use native.Mathlib.Omega.{arith}
use native.Mathlib.Numerals.{add-one}
use lib.ListN.{length, drop, get_or, drop_of_length-le}
use lib.Seq.{drop-cons}
use Rattle.records.specs.declared.Record.{Record}
use Rattle.records.specs.declared.Table.{Table}
use Rattle.records.specs.Records.{no_record, is_none, all_none, inserted, removed}
use Rattle.records.specs.Rows.{record_at, cleared, filled}

cleared_next : (xs : List Record) (j : ℕ) → cleared (removed xs (suc j) j no_record) j ≡ cleared xs (suc j)
unfolding cleared
cleared_next xs j = refl

pub cleared_turn : (xs : List Record) (i : ℕ) → 0 < i → cleared (removed xs (i - 1 + 1) (i - 1) no_record) (i - 1) ≡ cleared xs i
cleared_turn xs i h =
    let e : suc (i - 1) ≡ i = omega arith in
    rw add-one (subst (λ (k : ℕ). cleared (removed xs (suc (i - 1)) (i - 1) no_record) (i - 1) ≡ cleared xs k) e (cleared_next xs (i - 1)))

pub cleared_none : (xs : List Record) (i : ℕ) → i ≡ 0 → cleared xs i ≡ xs
unfolding cleared
cleared_none xs i e = ap (cleared xs) e

pub filled_first : (xs : List Record) (t : Table) → xs ≡ filled xs t 0
unfolding filled
filled_first xs t = refl

pub filled_turn : (xs : List Record) (t : Table) (i : ℕ) → inserted (filled xs t i) i i (record_at t i) ≡ filled xs t (i + 1)
unfolding filled
filled_turn xs t i = rw add-one refl

assoc : (a b c : Bool) → ((a && b) && c) ≡ (a && (b && c))
assoc true b c = refl
assoc false b c = refl

pub zero_turn : (xs : List Record) (c : Bool) (i : ℕ) → i < length xs
    → ((c && is_none (get_or xs i no_record)) && all_none (drop (i + 1) xs)) ≡ (c && all_none (drop i xs))
unfolding all_none
zero_turn xs c i l =
    rw (add-one, drop-cons xs i no_record) (assoc c (is_none (get_or xs i no_record)) (all_none (drop (suc i) xs)))

pub zero_last : (xs : List Record) (c : Bool) (i : ℕ) → length xs ≤ i → (c && all_none (drop i xs)) ≡ c
unfolding all_none
zero_last xs c i l = ap (λ (zs : List Record). c && all_none zs) (drop_of_length-le xs l) ∙ go c
  where
    go : (c : Bool) → (c && true) ≡ c
    go true = refl
    go false = refl
