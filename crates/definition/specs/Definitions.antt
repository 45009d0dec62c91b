-- A `define` (01, "Macros"): what bars it, whether it is bad, and the macro that it defines.
-- Assumes nothing.
use Rattle.std.specs.Prelude.{ℕ, Bool, true, false, cond, ◌||◌, List, [], ◌∷◌, eqb, ltb, length}
use Rattle.std.proofs.Math.Option.{Option, none, some}
use Rattle.text.specs.Bytes.{same, part}
use Rattle.lex.specs.declared.Fault.{Fault}
use Rattle.names.specs.Names.{is_directive}
use Rattle.storing.specs.Stored.{stored}
use Rattle.storing.specs.Graves.{has_grave}
use Rattle.afresh.specs.Judging.{bad_text, bad_default}
use Rattle.definition.specs.Extents.{extent_at, bars_of}
use Rattle.definition.specs.Heads.{head_at}
use Rattle.definition.specs.Lists.{Formals, ill, whole, formals_at}
use Rattle.definition.specs.declared.Extent.{Extent}
use Rattle.definition.specs.declared.Head.{Head}
use Rattle.definition.specs.declared.Formal.{Formal}

-- a macro: its name, its formals with their defaults, its text
pub data Parameter : Type 0 where
  parameter : List ℕ → Option (List ℕ) → Parameter

pub data Macro : Type 0 where
  macro : List ℕ → List Parameter → List ℕ → Macro

-- a formal's name
abbrev pub formal_name : List ℕ → Formal → List ℕ
formal_name s f = part s f.from f.end

abbrev pub parameter_of : List ℕ → Formal → Parameter
parameter_of s f = parameter (formal_name s f) (cond f.given (some (stored s f.first f.stop)) none)

unfoldable pub parameters_of : List ℕ → List Formal → List Parameter
parameters_of s [] = []
parameters_of s (f ∷ fs) = parameter_of s f ∷ parameters_of s fs

-- "default with a grave accent outside a string", or one that, stored, 2 to 6 would bar; "unmatched brackets" make the
-- list ill_formed
unfoldable pub bad_formal : List ℕ → Formal → Bool
bad_formal s f =
    cond f.given (has_grave s f.first f.stop || bad_default (stored s f.first f.stop)) false

unfoldable pub named : List ℕ → List ℕ → List Formal → Bool
named s w [] = false
named s w (f ∷ fs) = let r = named s w fs in cond (same w (formal_name s f)) true r

-- a bad default, or "a formal twice": one of those behind has its name
abbrev pub bad_among : List ℕ → Formal → List Formal → Bool
bad_among s f fs = bad_formal s f || named s (formal_name s f) fs

unfoldable pub bad_formals : List ℕ → List Formal → Bool
bad_formals s [] = false
bad_formals s (f ∷ fs) =
    let r = bad_formals s fs in
    cond (bad_among s f fs) true r

-- the formals of a head, and where the macro text begins; none does if the head is not whole
abbrev pub shape_by : List ℕ → Head → Formals
shape_by s h = cond h.whole (cond h.listed (formals_at s h.next) (whole [] h.next)) ill

abbrev pub text_at : List ℕ → Formals → ℕ
text_at s ill = length s
text_at s (whole fs x) = x

-- barred by 2 to 6 at a place; bad (11); or a macro. The last two with the definition's end
pub data Definition : Type 0 where
  barred : ℕ → ℕ → Definition
  bad : ℕ → Definition
  good : Macro → ℕ → Definition

-- "a directive's name", "a formal twice, a 17th formal", defaults, text
abbrev pub is_bad : List ℕ → List ℕ → List Formal → List ℕ → Bool
is_bad s n fs w = is_directive n || (ltb 16 (length fs) || (bad_formals s fs || bad_text w))

abbrev pub judged_by : List ℕ → Head → ℕ → Formals → Definition
judged_by s h e ill = bad e
judged_by s h e (whole fs x) =
    cond (is_bad s (part s h.from h.end) fs (stored s x e)) (bad e)
    (good (macro (part s h.from h.end) (parameters_of s fs) (stored s x e)) e)

abbrev pub unless_barred : Fault → Definition → Definition
unless_barred f d = cond (eqb f.number 0) d (barred f.number f.place)

abbrev pub defined_by : List ℕ → Extent → Head → Formals → Definition
defined_by s w h fs = unless_barred (bars_of w (text_at s fs)) (judged_by s h w.end fs)

-- the definition whose word `define` ends at i
unfoldable pub definition_at : List ℕ → ℕ → Definition
definition_at s i = defined_by s (extent_at s i) (head_at s i) (shape_by s (head_at s i))
