-- Past a grave accent name: never back before its end.
-- Assumes nothing.
use Prim.Native.Nat.{ℕ, ◌≤◌}
use mathlib.Core.Bool.{Bool}
use mathlib.Core.List.{List, []}
use mathlib.Core.Path.{◌≡◌, refl, subst}
use native.Mathlib.Omega.{arith}
use lib.Dec.{eqb}
use Rattle.std.specs.Prelude.{Ok, Err}
use Rattle.lex.specs.Tokens.{name_of}
use Rattle.lex.specs.declared.Token.{Token}
use Rattle.lex.proofs.Tests.{by_test}
use Rattle.names.specs.Names.{Define, directive_of}
use Rattle.directive.specs.Forms.{form_at}
use Rattle.directive.specs.declared.Value.{Value}
use Rattle.directive.specs.declared.Form.{Form}
use Rattle.directive.specs.declared.Form.TheVariants as form
use Rattle.directive.proofs.Advance.{form_past}
use Rattle.definition.specs.Definitions.{Macro, Definition, barred, bad, good, definition_at}
use Rattle.definition.proofs.Advance.{definition_past}
use Rattle.conditions.specs.Grammar.{Condition, is_defined, condition_at}
use Rattle.conditions.proofs.Parts.{condition_past}
use Rattle.classify.specs.Words.{Past, by_form, by_definition, by_condition, takes_condition, past_directive, past_grave}

-- where to read on lies at i or later
unfoldable pub OnPast : ℕ → Past → Type 0
OnPast i (Ok x) = i ≤ x.0
OnPast i (Err f) = Unit {0}

module _ (v₀ v i : ℕ) where
  form_on : (f : Form) → ((x : Value) (e : ℕ) → f ≡ form.Formed x e → i ≤ e) → OnPast i (by_form v₀ v i f)
  unfolding OnPast
  form_on (form.Formed x e) h = h x e refl
  form_on form.Unformed h = omega arith
  form_on (form.Barred n p) h = tt

  definition_on : (d : Definition) → ((m : Macro) (e : ℕ) → d ≡ good m e → i ≤ e) → OnPast i (by_definition v i d)
  unfolding OnPast
  definition_on (barred n p) h = tt
  definition_on (bad e) h = omega arith
  definition_on (good m e) h = h m e refl

  condition_on : (c : Condition) → ((b : Bool) (e : ℕ) → c ≡ Ok (b, e) → i ≤ e) → OnPast i (by_condition v i c)
  unfolding OnPast
  condition_on (Ok x) h = h x.0 x.1 refl
  condition_on (Err f) h = by_test (OnPast i) (eqb f.number 7) (λ q. omega arith) (λ q. tt)

module _ (v₀ v : ℕ) (s : List ℕ) (t : Token) where
  directive_on : (d : ℕ) → OnPast t.end (past_directive d v₀ v s t)
  unfolding past_directive
  directive_on d =
      by_test (OnPast t.end) (eqb d Define) (λ q. definition_on v₀ v t.end (definition_at s t.end) (λ m e. definition_past s t.end e m))
      (λ q. by_test (OnPast t.end) (takes_condition d)
      (λ q. condition_on v₀ v t.end (condition_at s (is_defined []) t) (condition_past s (is_defined []) t))
      (λ q. form_on v₀ v t.end (form_at d s t.end) (λ x e. form_past d s t.end e x)))

  pub grave_on : OnPast t.end (past_grave v₀ v s t)
  unfolding past_grave
  grave_on = directive_on (directive_of (name_of s t))

  pub grave_past : (p : Past) (e v' : ℕ) → p ≡ past_grave v₀ v s t → p ≡ Ok (e, v') → t.end ≤ e
  unfolding OnPast
  grave_past p e v' a b = subst (OnPast t.end) b (rw a grave_on)
