-- Which acts are asked for, and why.
-- Assumes nothing.
use Rattle.std.specs.Prelude.{ℕ, ◌<◌, ◌≤◌, Bool, true, false, not, ◌&&◌, List, [], ◌≡◌, eqb, leb, length, Ok, Err}
use Rattle.std.proofs.Math.Option.{Option, some}
use Rattle.text.specs.Bytes.{part}
use Rattle.lex.specs.Faults.{fault}
use Rattle.lex.specs.Tokens.{Grave, End, is, name_of}
use Rattle.names.specs.Names.{FileWord, LineWord, Define, Undef, UndefineAll, Ifdef, Ifndef, Elsif, Else, Endif, Include, Resetall, EndKeywords, directive_of}
use Rattle.directive.specs.declared.Value.{Value}
use Rattle.directive.specs.declared.Form.TheVariants.{Formed, Barred}
use Rattle.directive.specs.declared.MacroName.TheVariants as name
use Rattle.directive.specs.declared.FileName.TheVariants.{Quoted, Angled}
use Rattle.directive.specs.Forms.{undef_at}
use Rattle.directive.specs.Include.{include_at}
use Rattle.definition.specs.Definitions.{Macro, barred, bad, good, definition_at}
use Rattle.store.specs.Stores.{undefine}
use Rattle.blocks.specs.Blocks.{Conditional, taken_by, open_block, next_block, close_block}
use Rattle.handover.specs.Entries.{entry_of}
use Rattle.turns.specs.States.{Here}
use Rattle.turns.specs.Acts.{Act, refuses, leaves, copies, skips, hides, branches, defines, undefines, includes, keeps, spells, expands, form_here, condition_here, file_word, line_word}

-- a token that 2 to 6 do not bar, before the end of the file
pub record Reading (h : Here) : Type 0 where
  pub free : eqb h.token.bar 0 ≡ true
  pub some_token : is End h.token ≡ false
  pub before : h.frame.cursor.at < length h.body
  pub past : h.frame.cursor.at < h.token.end
  pub within : h.token.end ≤ length h.body

-- .. the grave accent name of the directive d, 0: none
pub record Named (h : Here) (d : ℕ) : Type 0 where
  pub reading : Reading h
  pub grave : is Grave h.token ≡ true
  pub name_is : directive_of (name_of h.body h.token) ≡ d

-- a directive ends at e: behind its word, in the file
pub record EndsAt (h : Here) (e : ℕ) : Type 0 where
  pub past : h.token.end ≤ e
  pub within : e ≤ length h.body

-- .. if the word itself does
abbrev pub EndsIn : Here → ℕ → Type 0
EndsIn h e = h.token.end ≤ length h.body → EndsAt h e

-- why a token or directive is refused
pub data Refusal (h : Here) : ℕ → ℕ → Type 0 where
  of_token : eqb h.token.bar 0 ≡ false → Refusal h h.token.bar h.token.at
  of_form : (d : ℕ) {n p : ℕ} → form_here d h ≡ Barred n p → Refusal h n p
  of_condition : {n p : ℕ} → condition_here h ≡ Err (fault n p) → Refusal h n p
  of_definition : {n p : ℕ} → definition_at h.body h.token.end ≡ barred n p → Refusal h n p
  of_line : eqb (include_at h.body h.token.end).bars.number 0 ≡ false
      → Refusal h (include_at h.body h.token.end).bars.number (include_at h.body h.token.end).bars.place
  of_rule : {n : ℕ} → 7 ≤ n → n ≤ 11 → Refusal h n h.token.at

-- a definition that ends at e, good or bad
pub data DefinedTo (h : Here) (e : ℕ) : Type 0 where
  ill : definition_at h.body h.token.end ≡ bad e → DefinedTo h e
  well : {m : Macro} → definition_at h.body h.token.end ≡ good m e → DefinedTo h e

-- the conditionals open behind the conditional word d, which ends at e
pub data Opens (h : Here) (d e : ℕ) : Option (List Conditional) → Type 0 where
  by_ifdef : {b : Bool} → d ≡ Ifdef → condition_here h ≡ Ok (b, e) → Opens h d e (open_block h.frame.file h.token.at b h.state.conds)
  by_ifndef : {b : Bool} → d ≡ Ifndef → condition_here h ≡ Ok (b, e) → Opens h d e (open_block h.frame.file h.token.at (not b) h.state.conds)
  by_elsif : {b : Bool} → d ≡ Elsif → condition_here h ≡ Ok (b, e) → Opens h d e (next_block b false h.state.conds)
  by_else : d ≡ Else → Opens h d e (next_block true true h.state.conds)
  by_endif : d ≡ Endif → Opens h d e (close_block h.state.conds)

-- the macros left by `undef` or `undefineall`, which ends at e
pub data Remain (h : Here) (e : ℕ) : List Macro → Type 0 where
  all_but : (a : ℕ) → Named h Undef → undef_at h.body h.token.end ≡ name.Named a e → Remain h e (undefine (part h.body a e) h.state.macros)
  no_more : Named h UndefineAll → Remain h e []

-- the form and name of the file on an include's line
pub data Includes (h : Here) : ℕ → List ℕ → Type 0 where
  quoted_name : {a e : ℕ} → (include_at h.body h.token.end).file ≡ Quoted a e → Includes h 0 (part h.body a e)
  angled_name : {a e : ℕ} → (include_at h.body h.token.end).file ≡ Angled a e → Includes h 1 (part h.body a e)

-- the entry i that it includes, and its depth
pub record Entry (h : Here) (i : ℕ) : Type 0 where
  pub form : ℕ
  pub name : List ℕ
  pub named : Includes h form name
  pub entry_is : i ≡ entry_of h.context.store form name h.context.table
  pub entry_in : i < length h.context.table
  pub depth_in : length h.others < 15

-- what `__FILE__` or `__LINE__` writes
pub data Spelled (h : Here) : List ℕ → Type 0 where
  file_name : Named h FileWord → Spelled h (file_word h)
  line_number : Named h LineWord → Spelled h (line_word h)

-- text is taken here, or ignored
abbrev pub Taken : Here → Type 0
Taken h = taken_by h.state.conds ≡ true

abbrev pub Ignored : Here → Type 0
Ignored h = taken_by h.state.conds ≡ false

-- an act, and why it is asked for
pub data Asks (h : Here) : Act → Type 0 where
  to_refuse : {n p : ℕ} → Refusal h n p → Asks h (refuses n p)
  to_leave : eqb h.token.bar 0 ≡ true → is End h.token ≡ true → Asks h leaves
  to_copy : Reading h → Taken h → is Grave h.token ≡ false → Asks h copies
  to_skip : Reading h → Ignored h → Asks h skips
  to_hide : {e : ℕ} → Named h Define → Ignored h → DefinedTo h e → EndsAt h e → Asks h (hides e)
  to_branch : {d e : ℕ} {cs : List Conditional} → Named h d → Opens h d e (some cs) → EndsAt h e
      → Asks h (branches cs e)
  to_define : {m : Macro} {e : ℕ} → Named h Define → Taken h → definition_at h.body h.token.end ≡ good m e → EndsAt h e
      → Asks h (defines m e)
  to_undefine : {ms : List Macro} {e : ℕ} → Reading h → Taken h → Remain h e ms → EndsAt h e → Asks h (undefines ms e)
  to_include : {i e : ℕ} → Named h Include → Taken h → Entry h i → EndsAt h e → Asks h (includes i e)
  to_keep : {v : Value} {e : ℕ} (d : ℕ) → Named h d → Taken h → (leb Resetall d && leb d EndKeywords) ≡ true → form_here d h ≡ Formed v e
      → EndsAt h e → Asks h (keeps v e)
  to_spell : {w : List ℕ} → Reading h → Taken h → Spelled h w → Asks h (spells w)
  to_expand : Named h 0 → Taken h → Asks h expands
