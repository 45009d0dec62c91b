-- A flattening over the first of 256 rows keeps what `Keeps` says.
-- Assumes nothing.
use Prim.Native.Nat.{ℕ, ◌-◌, ◌≤◌}
use mathlib.Core.Bool.{cond}
use mathlib.Core.List.{List, [], ◌++◌}
use mathlib.Core.Path.{◌≡◌, sym, ◌∙◌, subst}
use native.Mathlib.Omega.{arith}
use lib.Dec.{eqb}
use lib.ListN.{length, take, drop, get_or, length-append, length-drop}
use lib.Seq.{length-take-le, take_at}
use Rattle.handover.specs.Sizes.{HandOver}
use Rattle.flatten.specs.Flattening.{lent, Flattens}
use Rattle.flatten.specs.declared.Flattened.{Flattened}
use Rattle.records.specs.declared.Table.{Table}
use Rattle.records.specs.Rows.{few, of_row, tabled, Keeps}
use Rattle.records.proofs.Few.{few_most}
use Rattle.records.proofs.Filling.{macros_in}

-- the rows k of which are lent, what they are then, and the others behind them
module _ (h : HandOver) (n k : ℕ) (t m b t' m' b' : List ℕ) (rows part : List (List ℕ)) (a : Flattened) (long : length rows ≡ 256) (e : k ≡ few n)
    (same : length part ≡ length (take (k - 0) rows)) (f : Flattens h (lent t m (take (k - 0) rows) b) (lent t' m' part b') a) where
  abbrev after : List (List ℕ)
  after = part ++ drop (k - 0) rows

  few_lent : length (take (k - 0) rows) ≡ few n
  few_lent = length-take-le (k - 0) rows (omega (arith, few_most n)) ∙ (let z : k - 0 ≡ k = omega arith in z) ∙ e

  after_long : length after ≡ 256
  after_long = rw (length-append, length-drop) (omega (arith, few_lent, few_most n))

  pub macros_room : (a.macros ≤ length after) × (a.macros ≤ 256)
  macros_room =
      let l : a.macros ≤ length part = macros_in h (lent t m (take (k - 0) rows) b) (lent t' m' part b') a f in
      (omega (arith, few_lent, few_most n, after_long), omega (arith, few_lent, few_most n))

  pub keeps_made : (u : Table) (c : ℕ) → u ≡ tabled (λ i. of_row (get_or after i [])) a.macros → c ≡ cond (eqb a.number 1) 0 n
      → Keeps h n t m b t' m' b' (record { table = u; clears = c; answer = a })
  keeps_made u c g d =
      record {
        before = take (k - 0) rows;
        before_few = few_lent;
        rows = after;
        rows_long = after_long;
        flattens =
            subst (λ (vs : List (List ℕ)). Flattens h (lent t m (take (k - 0) rows) b) (lent t' m' vs b') a)
            (sym (take_at part (drop (k - 0) rows) (few n) (same ∙ few_lent))) f;
        table_is = g;
        clears_are = d;
      }
