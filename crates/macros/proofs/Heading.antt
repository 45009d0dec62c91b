-- The name of a good definition is that of its head, and lies in the text.
-- Assumes nothing.
use mathlib.Core.Path.{◌≡◌, refl, sym, ap, ◌∙◌, subst}
use mathlib.Core.Bool.{Bool, true, false, ◌||◌}
use mathlib.Core.List.{List}
use Prim.Native.Nat.{ℕ, ◌-◌, ◌≤◌, ◌<◌}
use native.Mathlib.Omega.{arith}
use lib.Dec.{eqb}
use lib.ListN.{length, drop, length-drop}
use lib.Seq.{length-take-le}
use Rattle.text.specs.Bytes.{part}
use Rattle.lex.specs.declared.Token.{Token}
use Rattle.lex.specs.Tokens.{in_definition, Name, Escaped, is, is_byte, token_at}
use Rattle.lex.proofs.Tests.{by_test}
use Rattle.lex.proofs.Progress.{token_within, token_from_end}
use Rattle.storing.specs.Stored.{stored}
use Rattle.definition.specs.declared.Head.{Head}
use Rattle.definition.specs.Extents.{extent_at, bars_of}
use Rattle.definition.specs.Heads.{gap_end, next_at, open_at, head_at}
use Rattle.definition.specs.Lists.{Formals, ill, whole}
use Rattle.definition.specs.Definitions.{Macro, Definition, barred, bad, good, is_bad, shape_by, text_at, judged_by, definition_at}
use Rattle.definition.proofs.Formals.{kind_inside}
use Rattle.store.specs.Stores.{macro_name}

-- ---- where it lies

record Lying (s : List ℕ) (h : Head) : Type 0 where
  ordered : h.from ≤ h.end
  within : h.end ≤ length s

next_inside : (s : List ℕ) (i : ℕ) → (is Name (next_at s i) || is Escaped (next_at s i)) ≡ true → gap_end s i < length s
next_inside s i e = go (is Name (next_at s i)) (is Escaped (next_at s i)) refl refl e
  where
    go : (p q : Bool) → is Name (next_at s i) ≡ p → is Escaped (next_at s i) ≡ q → (p || q) ≡ true → gap_end s i < length s
    go true q x y z = kind_inside in_definition s (gap_end s i) Name refl x
    go false true x y z = kind_inside in_definition s (gap_end s i) Escaped refl y
    go false false x y z = kind_inside in_definition s (gap_end s i) Name refl (x ∙ z)

lying : (s : List ℕ) (i : ℕ) → Lying s (head_at s i)
unfolding head_at
lying s i =
    by_test (Lying s) (is Name t || is Escaped t)
    (λ e. by_test (Lying s) (is_byte s 40 (token_at in_definition s (open_at s t)))
    (λ q. record { ordered = token_from_end in_definition s (gap_end s i) (next_inside s i e); within = token_within in_definition s (gap_end s i) (next_inside s i e) })
    (λ q. record { ordered = token_from_end in_definition s (gap_end s i) (next_inside s i e); within = token_within in_definition s (gap_end s i) (next_inside s i e) }))
    (λ e. record { ordered = omega arith; within = omega arith })
  where
    t : Token
    t = next_at s i

part_long : (s : List ℕ) (a e : ℕ) → a ≤ e → e ≤ length s → length (part s a e) ≡ e - a
part_long s a e h k = length-take-le (e - a) (drop a s) (omega (arith, length-drop a s))

-- ---- whose it is

abbrev Named : List ℕ → Definition → Type 0
Named n (barred k p) = Unit {0}
Named n (bad e) = Unit {0}
Named n (good m e) = macro_name m ≡ n

judged_named : (s : List ℕ) (h : Head) (e : ℕ) (fs : Formals) → Named (part s h.from h.end) (judged_by s h e fs)
judged_named s h e ill = tt
judged_named s h e (whole fs x) =
    by_test (Named (part s h.from h.end)) (is_bad s (part s h.from h.end) fs (stored s x e)) (λ q. tt) (λ q. refl)

name_is : (s : List ℕ) (i e : ℕ) (m : Macro) → definition_at s i ≡ good m e → macro_name m ≡ part s (head_at s i).from (head_at s i).end
unfolding definition_at
name_is s i e m q =
    let h = head_at s i in
    let fs = shape_by s h in
    let n = part s h.from h.end in
    subst (Named n) q
    (by_test (Named n) (eqb (bars_of (extent_at s i) (text_at s fs)).number 0)
    (λ z. judged_named s h (extent_at s i).end fs) (λ z. tt))

-- ---- by the head as the code reads it

module _ (s : List ℕ) (i : ℕ) {h : Head} (q : h ≡ head_at s i) where
  pub head_ordered : h.from ≤ h.end
  head_ordered = subst (λ (x : Head). x.from ≤ x.end) (sym q) (lying s i).ordered

  pub name_long : {m : Macro} {e : ℕ} → definition_at s i ≡ good m e → h.end - h.from ≡ length (macro_name m)
  name_long {m} {e} g =
      let k : Lying s (head_at s i) = lying s i in
      ap (λ (x : Head). x.end - x.from) q
      ∙ sym (part_long s (head_at s i).from (head_at s i).end k.ordered k.within)
      ∙ sym (ap length (name_is s i e m g))
