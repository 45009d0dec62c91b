-- `conditions::next_token` meets its contract: a byte over 32 that is no `/` is neither white nor begins a comment.
-- Assumes nothing.
use Prim.Native.Nat.{ℕ, ◌<◌}
use mathlib.Core.Bool.{true, false, not, ◌&&◌}
use mathlib.Core.List.{List}
use mathlib.Core.Path.{◌≡◌, refl, sym}
use native.Mathlib.Omega.{arith}
use lib.Dec.{eqb, ltb}
use lib.ListN.{get_or}
use borrow.Author.Tests.{ltb-true, eqb-false, ne_eqb, not-true}
use Rattle.lex.specs.Classes.{is_white}
use Rattle.lex.proofs.Tests.{and_left, and_right, read_within}
use Rattle.directive.specs.Words.{word_start}
use Rattle.directive.proofs.Wording.{start_solid}
use Rattle.conditions.proofs.next_token.Goals as goal

not_white : (b : ℕ) → 32 < b → is_white b ≡ false
not_white b h = rw (ne_eqb b 9 (λ q. absurd (omega arith)), ne_eqb b 12 (λ q. absurd (omega arith)), ne_eqb b 32 (λ q. absurd (omega arith)))

here : (s : List ℕ) (i b : ℕ) → b ≡ get_or s i 0 → (ltb 32 b && not (eqb b 47)) ≡ true → i ≡ word_start s i
here s i b z e =
    let f : (ltb 32 (get_or s i 0) && not (eqb (get_or s i 0) 47)) ≡ true = rw (← z) e in
    let l = read_within (λ x. ltb 32 x && not (eqb x 47)) refl s i f in
    let g = ltb-true 32 (get_or s i 0) (and_left (ltb 32 (get_or s i 0)) _ f) in
    let n = eqb-false (get_or s i 0) 47 (not-true (eqb (get_or s i 0) 47) (and_right (ltb 32 (get_or s i 0)) _ f)) in
    sym (start_solid s i l (not_white (get_or s i 0) g) n)

pub returns-then-b : goal.returns-then-b
returns-then-b c = here _ _ _ c.peek-b.ensures c.if-b.true
