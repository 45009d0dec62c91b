-- What pass answers of a store, by whether definitions leave it.
-- Assumes nothing.
use Prim.Native.Nat.{ℕ, ◌<◌, ◌≤◌}
use mathlib.Core.List.{List}
use mathlib.Core.Path.{◌≡◌, refl, sym, subst, ◌∙◌}
use lib.ListN.{length, get_or}
use Rattle.definition.specs.Definitions.{Macro}
use Rattle.store.specs.Buffers.{Holds}
use Rattle.genuine.specs.Layout.{left_in}
use Rattle.std.proofs.Common.{Option, Some, None}
use Rattle.genuine.proofs.Accepting.{Accepted, left_complete, left_sound}
use Rattle.passing.specs.Passing.{pass_of}
use Rattle.pass.specs.declared.Answer.{Answer}
use Rattle.pass.specs.declared.Answer.TheVariants as answer
use Rattle.pass.specs.Answer.{answer_of, Passes}
use Rattle.pass.specs.Judging.{Kept}

module _ {b : List ℕ} {r : List (List ℕ)} {c : Option ℕ} (e : c ≡ left_in b r) where
  pub left_kept : ((i : ℕ) → get_or b i 0 < 256) → (n : ℕ) → c ≡ Some n → Kept b r n
  left_kept s n k =
      let a : Accepted b r n = left_sound b r n s (sym e ∙ k) in
      record {
        bytes_small = a.left.small;
        few_macros = subst (λ (i : ℕ). i ≤ 256) (sym a.count) a.left.few;
        stored = record { macros = a.macros; holds = subst (λ (i : ℕ). Holds a.macros b r i) (sym a.count) a.left.holds };
      }

  pub passes_left : {x : Answer} (n : ℕ) → c ≡ Some n → ((ms : List Macro) → Holds ms b r n → x ≡ answer_of (pass_of ms)) → Passes b r x
  passes_left n k s = record {
    left = λ ms l.
        let g : left_in b r ≡ Some (length ms) = left_complete ms b r l in
        let z : n ≡ length ms = cc in
        s ms (subst (λ (i : ℕ). Holds ms b r i) (sym z) l.holds);
    foreign = λ g. cc;
  }

  pub passes_foreign : c ≡ None → Passes b r answer.Foreign
  passes_foreign k = record {
    left = λ ms l.
        let g : left_in b r ≡ Some (length ms) = left_complete ms b r l in
        cc;
    foreign = λ g. refl;
  }
