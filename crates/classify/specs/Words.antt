-- Classify (01, "Reserved words"): "each plain name outside directives, with offset, length, reserved or not".
-- Assumes nothing.
use Rattle.std.specs.Prelude.{ℕ, zero, suc, ◌-◌, Bool, cond, not, ◌||◌, List, [], ◌∷◌, eqb, leb, length, Result, Ok, Err}
use Rattle.lex.specs.Tokens.{in_file, Name, Grave, is, name_of, token_at}
use Rattle.lex.specs.declared.Fault.{Fault}
use Rattle.lex.specs.declared.Token.{Token}
use Rattle.lex.specs.Faults.{fault}
use Rattle.keywords.specs.Keywords.{is_reserved}
use Rattle.names.specs.Names.{Define, Ifdef, Ifndef, Elsif, directive_of}
use Rattle.directive.specs.Forms.{form_at}
use Rattle.directive.specs.declared.Form.{Form}
use Rattle.directive.specs.declared.Form.TheVariants as form
use Rattle.settings.specs.Settings.{keywords_by}
use Rattle.definition.specs.Definitions.{Definition, barred, bad, good, definition_at}
use Rattle.conditions.specs.Grammar.{Condition, is_defined, condition_at}

-- where to read on, and in which keyword set; or a refusal
abbrev pub Past : Type 0
Past = Result (ℕ × ℕ) Fault

-- "In classify a well-formed directive gives no words; of an ill_formed one, or any other grave accent name, only that
-- token is skipped", which ends at e
abbrev pub by_form : ℕ → ℕ → ℕ → Form → Past
by_form v₀ v e (form.Formed x e') = Ok (e', keywords_by x v₀ v)
by_form v₀ v e form.Unformed = Ok (e, v)
by_form v₀ v e (form.Barred n p) = Err (fault n p)

abbrev pub by_definition : ℕ → ℕ → Definition → Past
by_definition v e (barred n p) = Err (fault n p)
by_definition v e (bad e') = Ok (e, v)
by_definition v e (good m e') = Ok (e', v)

abbrev pub by_condition : ℕ → ℕ → Condition → Past
by_condition v e (Ok x) = Ok (x.1, v)
by_condition v e (Err f) = cond (eqb f.number 7) (Ok (e, v)) (Err f)

abbrev pub takes_condition : ℕ → Bool
takes_condition d = eqb d Ifdef || (eqb d Ifndef || eqb d Elsif)

-- past the directive d, whose word is t; a condition has one form whatever is defined
unfoldable pub past_directive : ℕ → ℕ → ℕ → List ℕ → Token → Past
past_directive d v₀ v s t =
    cond (eqb d Define) (by_definition v t.end (definition_at s t.end))
    (cond (takes_condition d) (by_condition v t.end (condition_at s (is_defined []) t))
    (by_form v₀ v t.end (form_at d s t.end)))

-- past a grave accent name
unfoldable pub past_grave : ℕ → ℕ → List ℕ → Token → Past
past_grave v₀ v s t = past_directive (directive_of (name_of s t)) v₀ v s t

abbrev pub bit : Bool → ℕ
bit b = cond b 1 0

-- a word: offset, length, 1 if reserved
abbrev pub word_of : List ℕ → ℕ → Token → List ℕ
word_of s v t = t.at ∷ (t.end - t.at) ∷ bit (is_reserved (name_of s t) v) ∷ []

-- the words from here on, and the refusal with its byte; number 0: none
pub record Words : Type 0 where
  pub words : List (List ℕ)
  pub number : ℕ
  pub place : ℕ

abbrev pub ends : ℕ → ℕ → Words
ends n p = record { words = []; number = n; place = p }

abbrev pub word_then : List ℕ → Words → Words
word_then w r = record { words = w ∷ r.words; number = r.number; place = r.place }

abbrev pub onward : Past → (ℕ → ℕ → Words) → Words
onward (Ok x) go = go x.0 x.1
onward (Err f) go = ends f.number f.place

-- a word, where room is left; 21: "no room for a word"
abbrev pub with_room : ℕ → ℕ → List ℕ → (ℕ → Words) → Words
with_room zero p w go = ends 21 p
with_room (suc k) p w go = word_then w (go k)

-- from i on, with room for k words, in the set v, v₀ the starting one; n: fuel
unfoldable pub words_from : ℕ → ℕ → ℕ → List ℕ → ℕ → ℕ → Words
words_from zero v₀ v s k i = ends 0 0
words_from (suc n) v₀ v s k i =
    let t = token_at in_file s i in
    cond (leb (length s) i) (ends 0 0)
    (cond (not (eqb t.bar 0)) (ends t.bar i)
    (cond (is Name t) (with_room k i (word_of s v t) (λ k'. words_from n v₀ v s k' t.end))
    (cond (is Grave t) (onward (past_grave v₀ v s t) (λ e v'. words_from n v₀ v' s k e))
    (words_from n v₀ v s k t.end))))

-- of a text, with room for k words
unfoldable pub words_of : ℕ → List ℕ → ℕ → Words
words_of v s k = words_from (length s) v v s k 0
