-- The forms of the directives (01, "Directives"): what one says, or that it is ill_formed.
-- Assumes nothing.
use Rattle.std.specs.Prelude.{ℕ, ◌+◌, Bool, cond, not, ◌||◌, List, eqb, ltb, drop}
use Rattle.text.specs.Bytes.{bytes, begins, part}
use Rattle.lex.specs.Tokens.{String, Name, Escaped, Number, is, is_byte}
use Rattle.lex.specs.declared.Token.{Token}
use Rattle.names.specs.Names.{Undef, UndefineAll, Else, Endif, Include, Resetall, Timescale, DefaultNettype, Celldefine, EndCelldefine, UnconnectedDrive, NoUnconnectedDrive, BeginKeywords, EndKeywords, FileWord, LineWord, Unknown, unit_of, nettype_of, drive_of, version_of}
use Rattle.directive.specs.Words.{word_at}
use Rattle.directive.specs.Include.{include_at}
use Rattle.directive.specs.declared.Word.{Word}
use Rattle.directive.specs.declared.Word.TheVariants as word
use Rattle.directive.specs.declared.Time.{Time}
use Rattle.directive.specs.declared.Time.TheVariants as time
use Rattle.directive.specs.declared.FileName.{FileName}
use Rattle.directive.specs.declared.FileName.TheVariants.{Unnamed, Quoted, Angled}
use Rattle.directive.specs.declared.IncludeLine.{IncludeLine}
use Rattle.directive.specs.declared.Value.{Value}
use Rattle.directive.specs.declared.Value.TheVariants.{Nothing, Times, NetType, Cell, Drive, Version, StartingSet, Reset}
use Rattle.directive.specs.declared.Read.{Read}
use Rattle.directive.specs.declared.Read.TheVariants.{Said, Unformed, Barred}
use Rattle.directive.specs.declared.MacroName.{MacroName}
use Rattle.directive.specs.declared.MacroName.TheVariants as name
use Rattle.directive.specs.declared.Form.{Form}
use Rattle.directive.specs.declared.Form.TheVariants as form

-- `undef`: a plain or escaped name, from and end without `\`
abbrev pub undef_by : Word → Read
undef_by (word.Found t) = cond (is Name t || is Escaped t) (Said t.from t.end t.end) Unformed
undef_by word.Missing = Unformed
undef_by (word.Barred n p) = Barred n p

unfoldable pub undef_form : List ℕ → ℕ → Read
undef_form s i = undef_by (word_at s i)

-- a time that ends at e: ten to the n, of the unit w
abbrev pub power : List ℕ → ℕ → ℕ → Time
power w n e = cond (eqb (unit_of w) Unknown) time.Unformed (time.Power (n + unit_of w) e)

abbrev pub unit_by : List ℕ → ℕ → Word → Time
unit_by s n (word.Found t) = cond (is Name t) (power (part s t.at t.end) n t.end) time.Unformed
unit_by s n word.Missing = time.Unformed
unit_by s n (word.Barred b p) = time.Barred b p

-- the unit, written onto the number whose first k bytes are ten to the n, or the next word
unfoldable pub unit_after : List ℕ → Token → ℕ → ℕ → Time
unit_after s t k n =
    cond (eqb (t.at + k) t.end) (unit_by s n (word_at s t.end))
    (power (part s (t.at + k) t.end) n t.end)

-- "1, 10, 100 of s ms us ns ps fs"
unfoldable pub magnitude : List ℕ → Token → Time
magnitude s t =
    cond (not (is Number t)) time.Unformed
    (cond (begins (drop t.at s) (bytes "100")) (unit_after s t 3 2)
    (cond (begins (drop t.at s) (bytes "10")) (unit_after s t 2 1)
    (cond (begins (drop t.at s) (bytes "1")) (unit_after s t 1 0)
    time.Unformed)))

abbrev pub time_by : List ℕ → Word → Time
time_by s (word.Found t) = magnitude s t
time_by s word.Missing = time.Unformed
time_by s (word.Barred b p) = time.Barred b p

unfoldable pub time_at : List ℕ → ℕ → Time
time_at s i = time_by s (word_at s i)

-- "precision not coarser than unit"
abbrev pub precision_by : ℕ → Time → Read
precision_by u (time.Power p e) = cond (ltb u p) Unformed (Said u p e)
precision_by u time.Unformed = Unformed
precision_by u (time.Barred b p) = Barred b p

unfoldable pub precision_form : List ℕ → ℕ → ℕ → Read
precision_form s u i = precision_by u (time_at s i)

abbrev pub slash_by : List ℕ → ℕ → Word → Read
slash_by s u (word.Found t) = cond (is_byte s 47 t) (precision_form s u t.end) Unformed
slash_by s u word.Missing = Unformed
slash_by s u (word.Barred b p) = Barred b p

unfoldable pub slash_form : List ℕ → ℕ → ℕ → Read
slash_form s u i = slash_by s u (word_at s i)

abbrev pub timescale_by : List ℕ → Time → Read
timescale_by s (time.Power u e) = slash_form s u e
timescale_by s time.Unformed = Unformed
timescale_by s (time.Barred b p) = Barred b p

unfoldable pub timescale_form : List ℕ → ℕ → Read
timescale_form s i = timescale_by s (time_at s i)

-- directives with one word of a table: a net type, a drive, a version
abbrev pub takes_entry : ℕ → Bool
takes_entry d = eqb d DefaultNettype || (eqb d UnconnectedDrive || eqb d BeginKeywords)

-- .. of which kind the word is, and its number in the table
abbrev pub entry_kind : ℕ → ℕ
entry_kind d = cond (eqb d BeginKeywords) String Name

abbrev pub entry_in : ℕ → List ℕ → ℕ
entry_in d w = cond (eqb d DefaultNettype) (nettype_of w) (cond (eqb d UnconnectedDrive) (drive_of w) (version_of w))

abbrev pub entry_by : ℕ → List ℕ → Word → Read
entry_by d s (word.Found t) =
    let n = entry_in d (part s t.at t.end) in
    cond (not (is (entry_kind d) t)) Unformed
    (cond (eqb n Unknown) Unformed
    (Said n 0 t.end))
entry_by d s word.Missing = Unformed
entry_by d s (word.Barred n p) = Barred n p

unfoldable pub entry_form : ℕ → List ℕ → ℕ → Read
entry_form d s i = entry_by d s (word_at s i)

abbrev pub named_by : FileName → ℕ → Read
named_by Unnamed e = Unformed
named_by (Quoted a b) e = Said 0 0 e
named_by (Angled a b) e = Said 0 0 e

abbrev pub line_form : IncludeLine → Read
line_form l =
    cond (eqb l.bars.number 0) (named_by l.file l.end)
    (Barred l.bars.number l.bars.place)

unfoldable pub include_form : List ℕ → ℕ → Read
include_form s i = line_form (include_at s i)

-- directives of the one word alone
abbrev pub stands_alone : ℕ → Bool
stands_alone d =
    eqb d FileWord || (eqb d LineWord || (eqb d UndefineAll || (eqb d Else || (eqb d Endif || (eqb d Resetall ||
    (eqb d Celldefine || (eqb d EndCelldefine || (eqb d NoUnconnectedDrive || eqb d EndKeywords))))))))

-- the directive d whose word ends at i; definitions and conditions have their own forms, and what is left out has none
unfoldable pub read_at : ℕ → List ℕ → ℕ → Read
read_at d s i =
    cond (eqb d Undef) (undef_form s i)
    (cond (stands_alone d) (Said 0 0 i)
    (cond (eqb d Include) (include_form s i)
    (cond (eqb d Timescale) (timescale_form s i)
    (cond (takes_entry d) (entry_form d s i)
    Unformed))))

-- what a directive says, by its numbers: "their ends", `end_keywords` "returns to the starting set", reset
unfoldable pub value_of : ℕ → ℕ → ℕ → Value
value_of d a b =
    cond (eqb d Resetall) Reset
    (cond (eqb d Celldefine) (Cell 1)
    (cond (eqb d EndCelldefine) (Cell 0)
    (cond (eqb d NoUnconnectedDrive) (Drive 0)
    (cond (eqb d EndKeywords) StartingSet
    (cond (eqb d Timescale) (Times a b)
    (cond (eqb d DefaultNettype) (NetType a)
    (cond (eqb d UnconnectedDrive) (Drive a)
    (cond (eqb d BeginKeywords) (Version a)
    Nothing))))))))

abbrev pub form_by : ℕ → Read → Form
form_by d (Said a b e) = form.Formed (value_of d a b) e
form_by d Unformed = form.Unformed
form_by d (Barred n p) = form.Barred n p

-- the form of the directive d whose word ends at i
unfoldable pub form_at : ℕ → List ℕ → ℕ → Form
form_at d s i = form_by d (read_at d s i)

abbrev pub name_by : Read → MacroName
name_by (Said a b e) = name.Named a b
name_by Unformed = name.Unnamed
name_by (Barred n p) = name.Barred n p

-- the name behind the `undef` whose word ends at i
unfoldable pub undef_at : List ℕ → ℕ → MacroName
undef_at s i = name_by (read_at Undef s i)
