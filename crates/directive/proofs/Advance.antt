-- A directive of its form ends no earlier than its word.
-- Assumes nothing.
use Prim.Native.Nat.{ℕ, suc, ◌+◌, ◌<◌, ◌≤◌}
use mathlib.Core.Bool.{Bool, not, ◌&&◌, ◌||◌}
use mathlib.Core.List.{List, [], ◌∷◌}
use mathlib.Core.Path.{◌≡◌, subst}
use native.Mathlib.Omega.{arith}
use lib.Dec.{eqb, ltb}
use lib.ListN.{drop}
use Rattle.text.specs.Bytes.{bytes, begins, part}
use Rattle.lex.specs.declared.Fault.{Fault}
use Rattle.lex.specs.declared.Mode.{Mode}
use Rattle.lex.specs.declared.Token.{Token}
use Rattle.lex.specs.Classes.{is_legal}
use Rattle.lex.specs.Faults.{fault, no_fault, fault_of, worse_of}
use Rattle.lex.specs.Tokens.{in_file, Newline, String, Name, Escaped, Number, is, is_byte, is_gap, token_at, tokens}
use Rattle.lex.proofs.Tests.{by_test}
use Rattle.lex.proofs.Progress.{token_ends}
use Rattle.lex.proofs.Listing.{by_tokens}
use Rattle.names.specs.Names.{Undef, Include, Timescale, Unknown, unit_of}
use Rattle.directive.specs.declared.Word.{Word}
use Rattle.directive.specs.declared.Word.TheVariants as word
use Rattle.directive.specs.declared.Time.{Time}
use Rattle.directive.specs.declared.Time.TheVariants as time
use Rattle.std.proofs.Common.{Option, Some, None}
use Rattle.directive.specs.declared.FileName.{FileName}
use Rattle.directive.specs.declared.FileName.TheVariants as file
use Rattle.directive.specs.declared.IncludeLine.{IncludeLine}
use Rattle.directive.specs.declared.Value.{Value}
use Rattle.directive.specs.declared.Read.{Read}
use Rattle.directive.specs.declared.Read.TheVariants.{Said, Unformed, Barred}
use Rattle.directive.specs.declared.Form.{Form}
use Rattle.directive.specs.declared.Form.TheVariants as form
use Rattle.directive.specs.Words.{wraps, word_start, word_at}
use Rattle.directive.specs.Include.{raw_from, raw_end, behind, behind_at, angled_by, name_at, include_in, include_at}
use Rattle.directive.specs.Forms.{undef_by, undef_form, power, unit_by, unit_after, magnitude, time_by, time_at, precision_by, precision_form, slash_by, slash_form, timescale_by, timescale_form, takes_entry, entry_kind, entry_in, entry_by, entry_form, named_by, line_form, include_form, stands_alone, read_at, form_by, form_at}
use Rattle.directive.proofs.Wording.{start_past, by_next}

-- what is found, if anything, ends at i or later
FoundPast : ℕ → Word → Type 0
FoundPast i (word.Found t) = i ≤ t.end
FoundPast i word.Missing = Unit {0}
FoundPast i (word.Barred n p) = Unit {0}

TimePast : ℕ → Time → Type 0
TimePast i (time.Power n e) = i ≤ e
TimePast i time.Unformed = Unit {0}
TimePast i (time.Barred n p) = Unit {0}

RawPast : ℕ → Option (ℕ × ℕ) → Type 0
RawPast i (Some (e, n)) = i ≤ e
RawPast i None = Unit {0}

LinePast : ℕ → IncludeLine → Type 0
LinePast i l = i ≤ l.end

ReadPast : ℕ → Read → Type 0
ReadPast i (Said a b e) = i ≤ e
ReadPast i Unformed = Unit {0}
ReadPast i (Barred n p) = Unit {0}

FormPast : ℕ → Form → Type 0
FormPast i (form.Formed v e) = i ≤ e
FormPast i form.Unformed = Unit {0}
FormPast i (form.Barred n p) = Unit {0}

-- a word from j on
found_past : (s : List ℕ) (j i : ℕ) → i ≤ j → FoundPast i (word_at s j)
unfolding FoundPast
found_past s j i h =
    by_next s j (FoundPast i) tt (λ l n. tt)
    (λ l. omega (arith, start_past s j, token_ends in_file s (word_start s j) l))

module _ (i : ℕ) where
  said : (a b e : ℕ) → i ≤ e → ReadPast i (Said a b e)
  unfolding ReadPast
  said a b e h = h

  unformed : ReadPast i Unformed
  unfolding ReadPast
  unformed = tt

  read_barred : (n p : ℕ) → ReadPast i (Barred n p)
  unfolding ReadPast
  read_barred n p = tt

  -- a form by the next word
  module _ (by : Word → Read) (found : (t : Token) → i ≤ t.end → ReadPast i (by (word.Found t)))
      (missing : ReadPast i (by word.Missing)) (barred : (n p : ℕ) → ReadPast i (by (word.Barred n p))) where
    by_word : (w : Word) → FoundPast i w → ReadPast i (by w)
    unfolding FoundPast
    by_word (word.Found t) h = found t h
    by_word word.Missing h = missing
    by_word (word.Barred n p) h = barred n p

    next_word : (s : List ℕ) (j : ℕ) → i ≤ j → ReadPast i (by (word_at s j))
    next_word s j h = by_word (word_at s j) (found_past s j i h)

  -- times
  power_past : (w : List ℕ) (n e : ℕ) → i ≤ e → TimePast i (power w n e)
  unfolding TimePast
  power_past w n e h = by_test (TimePast i) (eqb (unit_of w) Unknown) (λ q. tt) (λ q. h)

  unit-by : (s : List ℕ) (n : ℕ) (w : Word) → FoundPast i w → TimePast i (unit_by s n w)
  unfolding FoundPast TimePast
  unit-by s n (word.Found t) h =
      by_test (TimePast i) (is Name t) (λ e. power_past (part s t.at t.end) n t.end h) (λ e. tt)
  unit-by s n word.Missing h = tt
  unit-by s n (word.Barred b p) h = tt

  unit-after : (s : List ℕ) (t : Token) (k n : ℕ) → i ≤ t.end → TimePast i (unit_after s t k n)
  unfolding unit_after
  unit-after s t k n h =
      by_test (TimePast i) (eqb (t.at + k) t.end) (λ e. unit-by s n (word_at s t.end) (found_past s t.end i h))
      (λ e. power_past (part s (t.at + k) t.end) n t.end h)

  magnitude_past : (s : List ℕ) (t : Token) → i ≤ t.end → TimePast i (magnitude s t)
  unfolding TimePast magnitude
  magnitude_past s t h =
      by_test (TimePast i) (not (is Number t)) (λ e. tt)
      (λ e. by_test (TimePast i) (begins (drop t.at s) (bytes "100")) (λ e. unit-after s t 3 2 h)
      (λ e. by_test (TimePast i) (begins (drop t.at s) (bytes "10")) (λ e. unit-after s t 2 1 h)
      (λ e. by_test (TimePast i) (begins (drop t.at s) (bytes "1")) (λ e. unit-after s t 1 0 h) (λ e. tt))))

  time-by : (s : List ℕ) (w : Word) → FoundPast i w → TimePast i (time_by s w)
  unfolding FoundPast TimePast
  time-by s (word.Found t) h = magnitude_past s t h
  time-by s word.Missing h = tt
  time-by s (word.Barred b p) h = tt

  time_past : (s : List ℕ) (j : ℕ) → i ≤ j → TimePast i (time_at s j)
  unfolding time_at
  time_past s j h = time-by s (word_at s j) (found_past s j i h)

  precision-by : (u : ℕ) (t : Time) → TimePast i t → ReadPast i (precision_by u t)
  unfolding TimePast
  precision-by u (time.Power p e) h = by_test (ReadPast i) (ltb u p) (λ q. unformed) (λ q. said _ _ e h)
  precision-by u time.Unformed h = unformed
  precision-by u (time.Barred b p) h = read_barred b p

  slash_found : (s : List ℕ) (u : ℕ) (t : Token) → i ≤ t.end → ReadPast i (slash_by s u (word.Found t))
  unfolding precision_form
  slash_found s u t h =
      by_test (ReadPast i) (is_byte s 47 t) (λ e. precision-by u (time_at s t.end) (time_past s t.end h))
      (λ e. unformed)

  timescale-by : (s : List ℕ) (t : Time) → TimePast i t → ReadPast i (timescale_by s t)
  unfolding TimePast slash_form
  timescale-by s (time.Power u e) h =
      next_word (slash_by s u) (slash_found s u) unformed read_barred s e h
  timescale-by s time.Unformed h = unformed
  timescale-by s (time.Barred b p) h = read_barred b p

  -- a word of a table
  entry_found : (d : ℕ) (s : List ℕ) (t : Token) → i ≤ t.end → ReadPast i (entry_by d s (word.Found t))
  entry_found d s t h =
      by_test (ReadPast i) (not (is (entry_kind d) t)) (λ q. unformed)
      (λ q. by_test (ReadPast i) (eqb (entry_in d (part s t.at t.end)) Unknown) (λ q. unformed) (λ q. said _ _ t.end h))

  -- an include's line
  raw_past : (ok : Bool) (j : ℕ) (xs : List ℕ) → i ≤ j → RawPast i (raw_from ok j xs)
  unfolding RawPast raw_from
  raw_past ok j [] h = tt
  raw_past ok j (x ∷ xs) h =
      by_test (RawPast i) (eqb x 62) (λ e. h)
      (λ e. by_test (RawPast i) (eqb x 10) (λ e. tt) (λ e. raw_past (ok && is_legal x) (suc j) xs (omega arith)))

  behind_past : (s : List ℕ) (n : FileName) (e : ℕ) (f : Fault) (other : Bool) (ts : List Token) → i ≤ e → LinePast i (behind s n e f other ts)
  unfolding LinePast behind
  behind_past s n e f other [] h = h
  behind_past s n e f other (t ∷ ts) h =
      by_test (LinePast i) (is Newline t) (λ q. h)
      (λ q. by_test (LinePast i) (wraps s t) (λ q. h)
      (λ q. behind_past s n e (worse_of f (fault_of t)) (other || not (is_gap t)) ts h))

  behind-at : (s : List ℕ) (n : FileName) (e : ℕ) (f : Fault) → i ≤ e → LinePast i (behind_at s n e f)
  unfolding behind_at
  behind-at s n e f h = behind_past s n e f _ (tokens in_file s e) h

  angled-by : (s : List ℕ) (j e : ℕ) (f : Fault) (r : Option (ℕ × ℕ)) → i ≤ e → RawPast i r → LinePast i (angled_by s j e f r)
  unfolding RawPast
  angled-by s j e f (Some (x, n)) h g = behind-at s _ (x + 1) (worse_of f (fault n j)) (omega arith)
  angled-by s j e f None h g = behind-at s _ e f h

  name-at : (s : List ℕ) (t : Token) (f : Fault) → i ≤ t.end → LinePast i (name_at s t f)
  unfolding name_at raw_end
  name-at s t f h =
      by_test (LinePast i) (is_byte s 60 t)
      (λ e. angled-by s t.at t.end f (raw_end s t.end) h (raw_past _ t.end (drop t.end s) h))
      (λ e. by_test (LinePast i) (is String t) (λ e. behind-at s _ t.end (worse_of f (fault_of t)) h)
      (λ e. behind-at s _ t.end (worse_of f (fault_of t)) h))

  include_past : (s : List ℕ) → LinePast i (include_at s i)
  unfolding LinePast include_at include_in
  include_past s =
      by_tokens s (λ (m : Mode) (j : ℕ) (ts : List Token). (f : Fault) → i ≤ j → LinePast i (include_in s i f ts))
      (λ m j l f h. omega arith) (λ m j l q f h. omega arith)
      (λ m j l q r f h. let t = token_at m s j in
      let p : j < t.end = token_ends m s j l in
      by_test (LinePast i) (is Newline t) (λ e. omega arith)
      (λ e. by_test (LinePast i) (wraps s t) (λ e. omega arith)
      (λ e. by_test (LinePast i) (not (is_gap t)) (λ e. name-at s t f (omega arith))
      (λ e. r (worse_of f (fault_of t)) (omega arith))))) in_file i no_fault (omega arith)

  named-by : (n : FileName) (e : ℕ) → i ≤ e → ReadPast i (named_by n e)
  named-by file.Unnamed e h = unformed
  named-by (file.Quoted a b) e h = said _ _ e h
  named-by (file.Angled a b) e h = said _ _ e h

  line_past : (l : IncludeLine) → LinePast i l → ReadPast i (line_form l)
  unfolding LinePast
  line_past l h =
      by_test (ReadPast i) (eqb l.bars.number 0) (λ e. named-by l.file l.end h) (λ e. read_barred _ _)

  at_past : (d : ℕ) (s : List ℕ) → ReadPast i (read_at d s i)
  unfolding read_at undef_form include_form timescale_form entry_form
  at_past d s =
      let h : i ≤ i = omega arith in
      by_test (ReadPast i) (eqb d Undef)
      (λ e. next_word undef_by (λ t h. by_test (ReadPast i) (is Name t || is Escaped t) (λ q. said _ _ t.end h) (λ q. unformed)) unformed read_barred s i h)
      (λ e. by_test (ReadPast i) (stands_alone d) (λ e. said _ _ i h)
      (λ e. by_test (ReadPast i) (eqb d Include) (λ e. line_past (include_at s i) (include_past s))
      (λ e. by_test (ReadPast i) (eqb d Timescale) (λ e. timescale-by s (time_at s i) (time_past s i h))
      (λ e. by_test (ReadPast i) (takes_entry d) (λ e. next_word (entry_by d s) (entry_found d s) unformed read_barred s i h)
      (λ e. unformed)))))

  form-by : (d : ℕ) (r : Read) → ReadPast i r → FormPast i (form_by d r)
  unfolding ReadPast FormPast
  form-by d (Said a b e) h = h
  form-by d Unformed h = tt
  form-by d (Barred n p) h = tt

pub form_past : (d : ℕ) (s : List ℕ) (i e : ℕ) (v : Value) → form_at d s i ≡ form.Formed v e → i ≤ e
unfolding form_at FormPast
form_past d s i e v q = subst (FormPast i) q (form-by i d (read_at d s i) (at_past i d s))
