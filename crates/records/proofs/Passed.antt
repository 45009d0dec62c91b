-- What pass answers over lent records is what it answers over the rows of the first 256.
-- Assumes nothing.
use Prim.Native.Nat.{ℕ, ◌-◌, ◌≤◌}
use mathlib.Core.Bool.{Bool, true, false}
use mathlib.Core.List.{List}
use mathlib.Core.Path.{◌≡◌, refl, sym, subst}
use lib.ListN.{length, take, drop, get_or}
use Rattle.pass.specs.Answer.{Passes}
use Rattle.pass.specs.declared.Answer.{Answer}
use Rattle.pass.specs.declared.Answer.TheVariants as answer
use Rattle.records.specs.declared.Record.{Record}
use Rattle.records.specs.declared.Table.{Table}
use Rattle.records.specs.Records.{no_record, all_none, rows_of}
use Rattle.records.specs.Rows.{few, tabled, rowed}
use Rattle.records.proofs.Behind.{front_left, front_foreign, none_left}
use Rattle.records.proofs.Loaded.{loaded_front, written_front}

pub passed_written : {b : List ℕ} {a : Answer} (vs ws : List (List ℕ)) (t : Table) → t.length ≤ length vs → t.length ≤ length t.rows
    → ws ≡ rowed vs t t.length → Passes b (take (t.length - 0) ws) a → Passes b (rows_of (take t.length t.rows)) a
passed_written {b} {a} vs ws t l k e s = subst (λ (us : List (List ℕ)). Passes b us a) (written_front vs ws t l k e) s

module _ (ys : List Record) (b : List ℕ) (a : Answer) where
  passed_zero : all_none (drop 256 ys) ≡ true → Passes b (rows_of (take (few (length ys)) ys)) a → Passes b (rows_of ys) a
  passed_zero e s =
      record {
        left = λ ms k. s.left ms (front_left ys b ms k);
        foreign = λ g. s.foreign (front_foreign ys b e g);
      }

  passed_foreign : all_none (drop 256 ys) ≡ false → a ≡ answer.Foreign → Passes b (rows_of ys) a
  passed_foreign e g = record { left = λ ms k. absurd (none_left ys b e ms k); foreign = λ _. g }

  passed_by : (c : Bool) → c ≡ all_none (drop 256 ys) → (c ≡ true → Passes b (rows_of (take (few (length ys)) ys)) a) → (c ≡ false → a ≡ answer.Foreign)
      → Passes b (rows_of ys) a
  passed_by true e f g = passed_zero (sym e) (f refl)
  passed_by false e f g = passed_foreign (sym e) (g refl)

  -- from what the table of the first records says, and whether the rest is zero
  pub passed_loaded : (t : Table) → t ≡ tabled (λ i. get_or ys i no_record) (few (length ys)) → (c : Bool) → c ≡ all_none (drop 256 ys)
      → (c ≡ true → Passes b (rows_of (take t.length t.rows)) a) × (c ≡ false → a ≡ answer.Foreign) → Passes b (rows_of ys) a
  passed_loaded t e c g f =
      passed_by c g (λ z. subst (λ (us : List Record). Passes b (rows_of us) a) (loaded_front ys t e) (f.0 z)) f.1
