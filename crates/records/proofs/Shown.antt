-- What look up shows over lent records is what it shows over the rows of the first 256.
-- Assumes nothing.
use Prim.Native.Nat.{ℕ, ◌-◌, ◌≤◌}
use mathlib.Core.Bool.{Bool, true, false}
use mathlib.Core.List.{List, []}
use mathlib.Core.Path.{◌≡◌, refl, sym, subst}
use lib.ListN.{length, take, drop, get_or}
use Rattle.macros.specs.Looking.{Shows}
use Rattle.records.specs.declared.Record.{Record}
use Rattle.records.specs.declared.Table.{Table}
use Rattle.records.specs.Records.{no_record, all_none, rows_of}
use Rattle.records.specs.Rows.{few, tabled, rowed}
use Rattle.records.proofs.Behind.{front_left, front_foreign, none_left}
use Rattle.records.proofs.Loaded.{loaded_front, written_front}

pub shown_written : {b : List ℕ} {name p : List ℕ} (vs ws : List (List ℕ)) (t : Table) → t.length ≤ length vs → t.length ≤ length t.rows
    → ws ≡ rowed vs t t.length → Shows b (take (t.length - 0) ws) name p → Shows b (rows_of (take t.length t.rows)) name p
shown_written {b} {name} {p} vs ws t l k e s = subst (λ (us : List (List ℕ)). Shows b us name p) (written_front vs ws t l k e) s

module _ (ys : List Record) (b : List ℕ) (name p : List ℕ) where
  shown_zero : all_none (drop 256 ys) ≡ true → Shows b (rows_of (take (few (length ys)) ys)) name p → Shows b (rows_of ys) name p
  shown_zero e s =
      record {
        left = λ ms k. s.left ms (front_left ys b ms k);
        foreign = λ g. s.foreign (front_foreign ys b e g);
      }

  shown_foreign : all_none (drop 256 ys) ≡ false → p ≡ [] → Shows b (rows_of ys) name p
  shown_foreign e g = record { left = λ ms k. absurd (none_left ys b e ms k); foreign = λ _. g }

  shown_by : (c : Bool) → c ≡ all_none (drop 256 ys) → (c ≡ true → Shows b (rows_of (take (few (length ys)) ys)) name p) → (c ≡ false → p ≡ [])
      → Shows b (rows_of ys) name p
  shown_by true e f g = shown_zero (sym e) (f refl)
  shown_by false e f g = shown_foreign (sym e) (g refl)

  -- from what the table of the first records says, and whether the rest is zero
  pub shown_loaded : (t : Table) → t ≡ tabled (λ i. get_or ys i no_record) (few (length ys)) → (c : Bool) → c ≡ all_none (drop 256 ys)
      → (c ≡ true → Shows b (rows_of (take t.length t.rows)) name p) × (c ≡ false → p ≡ []) → Shows b (rows_of ys) name p
  shown_loaded t e c g f =
      shown_by c g (λ z. subst (λ (us : List Record). Shows b (rows_of us) name p) (loaded_front ys t e) (f.0 z)) f.1
