-- What the token, directive or usage at the cursor asks for.
-- Assumes nothing.
use Rattle.std.specs.Prelude.{ℕ, Bool, true, false, cond, not, ◌&&◌, ◌||◌, List, [], eqb, leb, length, get_or, Ok, Err}
use Rattle.std.proofs.Math.Option.{Option, none, some}
use Rattle.text.specs.Bytes.{part}
use Rattle.lex.specs.Tokens.{Grave, End, is, name_of}
use Rattle.names.specs.Names.{FileWord, LineWord, Define, Undef, UndefineAll, Ifdef, Elsif, Else, Endif, Include, Resetall, EndKeywords, directive_of}
use Rattle.directive.specs.declared.Value.{Value}
use Rattle.directive.specs.declared.MacroName.{MacroName}
use Rattle.directive.specs.declared.MacroName.TheVariants as name
use Rattle.directive.specs.declared.Form.{Form}
use Rattle.directive.specs.declared.Form.TheVariants.{Formed, Unformed, Barred}
use Rattle.directive.specs.declared.FileName.{FileName}
use Rattle.directive.specs.declared.FileName.TheVariants.{Unnamed, Quoted, Angled}
use Rattle.directive.specs.declared.IncludeLine.{IncludeLine}
use Rattle.directive.specs.Forms.{form_at, undef_at}
use Rattle.directive.specs.Include.{include_at}
use Rattle.definition.specs.Definitions.{Macro, Definition, barred, bad, good, definition_at}
use Rattle.store.specs.Stores.{undefine}
use Rattle.conditions.specs.Grammar.{Condition, is_defined, condition_at}
use Rattle.places.specs.Places.{quoted, decimal}
use Rattle.blocks.specs.Blocks.{Conditional, taken_by, open_block, next_block, close_block}
use Rattle.handover.specs.Entries.{entry_of, name_of as entryNamed}
use Rattle.turns.specs.States.{Here}

-- e: the byte behind a directive
pub data Act : Type 0 where
  refuses : ℕ → ℕ → Act  -- number, byte
  leaves : Act  -- the file, at its end
  copies : Act  -- the token, in taken text
  skips : Act  -- the token, in ignored text
  hides : ℕ → Act  -- a definition in ignored text
  branches : List Conditional → ℕ → Act  -- a conditional word: these are open behind it
  defines : Macro → ℕ → Act  -- `define`
  undefines : List Macro → ℕ → Act  -- `undef`, `undefineall`: these are left
  includes : ℕ → ℕ → Act  -- `include` of the entry i
  keeps : Value → ℕ → Act  -- a directive that is copied and kept as state
  spells : List ℕ → Act  -- `__FILE__`, `__LINE__`: these bytes
  expands : Act  -- a usage

-- "The place is where the token, directive or usage starts"
abbrev pub refuses_here : Here → ℕ → Act
refuses_here h n = refuses n h.token.at

-- a directive at p of its form; 7; or 2 to 6 with the token's place
abbrev pub on_form : ℕ → Form → (Value → ℕ → Act) → Act
on_form p (Formed v e) f = f v e
on_form p Unformed f = refuses 7 p
on_form p (Barred n q) f = refuses n q

abbrev pub form_here : ℕ → Here → Form
form_here d h = form_at d h.body h.token.end

-- Conditionals

abbrev pub is_defined_here : Here → List ℕ → Bool
is_defined_here h = is_defined h.state.macros

-- the condition behind a conditional word
abbrev pub condition_here : Here → Condition
condition_here h = condition_at h.body (is_defined_here h) h.token

-- by its value and its end; refused with 7, or with 2 to 6
abbrev pub on_condition : Condition → (Bool → ℕ → Act) → Act
on_condition (Ok x) f = f x.0 x.1
on_condition (Err g) f = refuses g.number g.place

-- the conditionals open then, or 8
abbrev pub on_blocks : ℕ → ℕ → Option (List Conditional) → Act
on_blocks p e none = refuses 8 p
on_blocks p e (some cs) = branches cs e

abbrev pub open_act : Here → Bool → ℕ → Act
open_act h b e = on_blocks h.token.at e (open_block h.frame.file h.token.at b h.state.conds)

-- "`ifndef (c)` is `ifdef (!(c))`"
abbrev pub condition_act : ℕ → Here → Bool → ℕ → Act
condition_act d h b e =
    cond (eqb d Elsif) (on_blocks h.token.at e (next_block b false h.state.conds))
    (open_act h (cond (eqb d Ifdef) b (not b)) e)

unfoldable pub conditional_act : ℕ → Here → Act
conditional_act d h =
    cond (eqb d Endif) (on_blocks h.token.at h.token.end (close_block h.state.conds))
    (cond (eqb d Else) (on_blocks h.token.at h.token.end (next_block true true h.state.conds))
    (on_condition (condition_here h) (condition_act d h)))

-- Definitions

-- 11; a good one may still be refused with 12
abbrev pub define_act : ℕ → Definition → Act
define_act p (barred n q) = refuses n q
define_act p (bad e) = refuses 11 p
define_act p (good m e) = defines m e

-- in ignored text "a definition hides all up to its end"
abbrev pub hide_act : Definition → Act
hide_act (barred n p) = refuses n p
hide_act (bad e) = hides e
hide_act (good m e) = hides e

-- by the name behind the `undef` at p; 7; or 2 to 6 with the token's place
abbrev pub on_name : ℕ → MacroName → (ℕ → ℕ → Act) → Act
on_name p (name.Named a e) f = f a e
on_name p name.Unnamed f = refuses 7 p
on_name p (name.Barred n q) f = refuses n q

-- "`undef` of an unknown name does nothing"
abbrev pub undef_act : Here → MacroName → Act
undef_act h m = on_name h.token.at m (λ a e. undefines (undefine (part h.body a e) h.state.macros) e)

-- Includes

-- 9: "not in the table, other text on its line, or a `/` name in angle brackets"; 10: "include at depth 16"
abbrev pub enter_act : Here → IncludeLine → ℕ → List ℕ → Act
enter_act h l form w =
    let i = entry_of h.context.store form w h.context.table in
    cond (h.frame.cursor.other || (l.other || (eqb form 1 && eqb (get_or w 0 0) 47))) (refuses_here h 9)
    (cond (leb (length h.context.table) i) (refuses_here h 9)
    (cond (leb 15 (length h.others)) (refuses_here h 10)
    (includes i l.end)))

-- by the form and name of the file, in s; 7: none is named
abbrev pub on_file : ℕ → List ℕ → FileName → (ℕ → List ℕ → Act) → Act
on_file p s Unnamed f = refuses 7 p
on_file p s (Quoted a e) f = f 0 (part s a e)
on_file p s (Angled a e) f = f 1 (part s a e)

abbrev pub include_act : Here → IncludeLine → Act
include_act h l = cond (eqb l.bars.number 0) (on_file h.token.at h.body l.file (enter_act h l)) (refuses l.bars.number l.bars.place)

-- "Copied as written, each one token, and kept as state"
abbrev pub keep_act : ℕ → Here → Act
keep_act d h = on_form h.token.at (form_here d h) keeps

-- "`__FILE__` and `__LINE__` write the quoted entry name and the decimal line"
abbrev pub file_word : Here → List ℕ
file_word h = quoted (entryNamed h.context.store h.context.table h.frame.file)

abbrev pub line_word : Here → List ℕ
line_word h = decimal 6 h.frame.cursor.line

-- Grave accent names, and all tokens

-- in taken text, no conditional word; d: the directive, 0: none
unfoldable pub taken_act : ℕ → Here → Act
taken_act d h =
    cond (eqb d 0) expands
    (cond (eqb d Define) (define_act h.token.at (definition_at h.body h.token.end))
    (cond (eqb d Undef) (undef_act h (undef_at h.body h.token.end))
    (cond (eqb d UndefineAll) (undefines [] h.token.end)
    (cond (eqb d Include) (include_act h (include_at h.body h.token.end))
    (cond (leb Resetall d && leb d EndKeywords) (keep_act d h)
    (cond (eqb d FileWord) (spells (file_word h))
    (cond (eqb d LineWord) (spells (line_word h))
    (refuses_here h 7))))))))

-- "Ignored text is still read as tokens, refused only by 2 to 6 or a conditional's 7 or 8"
abbrev pub ignored_act : ℕ → Here → Act
ignored_act d h = cond (eqb d Define) (hide_act (definition_at h.body h.token.end)) skips

abbrev pub grave_act : ℕ → Here → Act
grave_act d h =
    cond (leb Ifdef d && leb d Endif) (conditional_act d h)
    (cond (taken_by h.state.conds) (taken_act d h) (ignored_act d h))

-- "the leftmost token. At a token 2 to 6 come first"
unfoldable pub act_at : Here → Act
act_at h =
    let t = h.token in
    cond (not (eqb t.bar 0)) (refuses_here h t.bar)
    (cond (is End t) leaves
    (cond (is Grave t) (grave_act (directive_of (name_of h.body t)) h)
    (cond (taken_by h.state.conds) copies skips)))
