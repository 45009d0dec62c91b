-- `form::push_list` meets its contract. The count is put, and the formals behind it.
-- Assumes nothing.
use mathlib.Core.List.{List, ◌∷◌}
use mathlib.Core.Path.{ap, sym, ◌∙◌, subst}
use Prim.Native.Nat.{ℕ, ◌%◌}
use native.Mathlib.Omega.{arith}
use Rattle.definition.proofs.Defining.{unlisted_none, listed_formals}
use Rattle.form.specs.Putting.{Put}
use Rattle.form.proofs.Pushing.{put_past, by_then, put_not}
use Rattle.form.proofs.Formed.{forms_of, forms_none, list_counted}
use Rattle.form.proofs.push_list.Goals as goal

pub returns-in_err-m : goal.returns-in_err-m
returns-in_err-m c fs x p q = let a = c.args in rw c.from_residual.ensures (put_not _ _ _ _ _ c.push_byte.ensures c.in_err-m.was (λ l. absurd l) (forms_of a.s.now fs) (list_counted a.s.now a.count fs c.requires.1 q))

pub push_formals-requires : goal.push_formals-requires
push_formals-requires c = put_past c.in_ok-m.ensures (omega arith)

pub returns-then-h : goal.returns-then-h
returns-then-h c fs x p q = let a = c.args in by_then c.in_ok-m.ensures (omega arith) (λ l. l) _ (forms_of a.s.now fs) (list_counted a.s.now a.count fs c.requires.1 q) c.push_formals.result (c.push_formals.ensures fs x (listed_formals a.s.now a.h p c.if-h.true))

pub returns : goal.returns
returns c fs x p q = let a = c.args in subst (λ (w : List ℕ). Put a.out.now c.push_byte.new.out a.n c.in_ok-m.m w) (ap (λ (w : List ℕ). a.count % 256 ∷ w) (sym (forms_none a.s.now (unlisted_none a.s.now a.h p c.if-h.false))) ∙ list_counted a.s.now a.count fs c.requires.1 q) c.in_ok-m.ensures
