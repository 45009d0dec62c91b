-- Where a directive and an include's line end: no earlier than their word, and within the file. What bars them: one of 2
-- to 6, at a place in the text.
-- Assumes nothing.
use Prim.Native.Nat.{ℕ, suc, ◌+◌, ◌≤◌}
use mathlib.Core.Bool.{Bool, true, false, not, ◌&&◌, ◌||◌}
use mathlib.Core.List.{List, [], ◌∷◌}
use mathlib.Core.Path.{◌≡◌, subst}
use native.Mathlib.Omega.{arith}
use lib.Dec.{eqb, ltb}
use lib.ListN.{length, drop, length-drop}
use Rattle.text.specs.Bytes.{bytes, begins, part}
use Rattle.lex.specs.declared.Fault.{Fault}
use Rattle.lex.specs.declared.Mode.{Mode}
use Rattle.lex.specs.declared.Token.{Token}
use Rattle.lex.specs.Classes.{is_legal}
use Rattle.lex.specs.Faults.{fault, no_fault, fault_of, worse_of}
use Rattle.lex.specs.Tokens.{in_file, Newline, String, Name, Escaped, Number, is, is_byte, is_gap, token_at, tokens}
use Rattle.lex.proofs.Tests.{by_test}
use Rattle.lex.proofs.Progress.{Inside, token-at}
use Rattle.lex.proofs.Barring.{Barring, numbered_none, illegal_bar, token_bars}
use Rattle.lex.proofs.Listing.{by_tokens}
use Rattle.names.specs.Names.{Undef, Include, Timescale, Unknown, unit_of}
use Rattle.directive.specs.declared.Word.{Word}
use Rattle.directive.specs.declared.Word.TheVariants as word
use Rattle.directive.specs.declared.Time.{Time}
use Rattle.directive.specs.declared.Time.TheVariants as time
use Rattle.std.proofs.Common.{Option, Some, None}
use Rattle.directive.specs.declared.FileName.{FileName}
use Rattle.directive.specs.declared.FileName.TheVariants as file
use Rattle.directive.specs.declared.IncludeLine.{IncludeLine}
use Rattle.directive.specs.declared.Value.{Value}
use Rattle.directive.specs.declared.Read.{Read}
use Rattle.directive.specs.declared.Read.TheVariants.{Said, Unformed, Barred}
use Rattle.directive.specs.declared.Form.{Form}
use Rattle.directive.specs.declared.Form.TheVariants as form
use Rattle.directive.specs.Words.{wraps, word_start, word_at}
use Rattle.directive.specs.Include.{raw_from, raw_end, line, behind, behind_at, angled_by, name_at, include_in, include_at}
use Rattle.directive.specs.Forms.{undef_by, undef_form, power, unit_by, unit_after, magnitude, time_by, time_at, precision_by, precision_form, slash_by, slash_form, timescale_by, timescale_form, takes_entry, entry_kind, entry_in, entry_by, entry_form, named_by, line_form, include_form, stands_alone, read_at, form_by, form_at}
use Rattle.directive.proofs.Wording.{start_past, by_next}
use Rattle.turns.proofs.Inside.{inside_here, token_in}

-- one of 2 to 6, at a place in the text s or at its end
pub record BarredIn (s : List ℕ) (n p : ℕ) : Type 0 where
  pub low : 2 ≤ n
  pub high : n ≤ 6
  pub place_in : p ≤ length s

-- .. or nothing
pub record FaultIn (s : List ℕ) (f : Fault) : Type 0 where
  pub bars : Barring f.number
  pub place_in : f.place ≤ length s

pub fault_barred : (s : List ℕ) (f : Fault) → FaultIn s f → eqb f.number 0 ≡ false → BarredIn s f.number f.place
fault_barred s f h e = record { low = h.bars.least e; high = h.bars.most; place_in = h.place_in }

-- the tokens of a text
TokensIn : List ℕ → List Token → Type 0
TokensIn s [] = Unit {0}
TokensIn s (t ∷ ts) = FaultIn s (fault_of t) × TokensIn s ts

module _ (s : List ℕ) where
  pub none_in : FaultIn s no_fault
  none_in = record { bars = numbered_none 6; place_in = omega arith }

  pub token_fault : (m : Mode) (i : ℕ) → i ≤ length s → FaultIn s (fault_of (token_at m s i))
  token_fault m i h = record { bars = token_bars s i m; place_in = omega (arith, token-at m s i) }

  tokens_in : (m : Mode) (i : ℕ) → TokensIn s (tokens m s i)
  unfolding TokensIn
  tokens_in m i =
      by_tokens s (λ (m : Mode) (j : ℕ) (ts : List Token). TokensIn s ts) (λ m j l. tt) (λ m j l q. tt)
      (λ m j l q r. (token_fault m j (omega arith), r)) m i

  pub worse_in : (f g : Fault) → FaultIn s f → FaultIn s g → FaultIn s (worse_of f g)
  worse_in f g a b =
      by_test (FaultIn s) (eqb g.number 0) (λ e. a)
      (λ e. by_test (FaultIn s) (eqb f.number 0) (λ e. b)
      (λ e. by_test (FaultIn s) (ltb g.number f.number) (λ e. b) (λ e. a)))

  -- what is found ends at i or later, in the text; a form and a line may end at i itself, if that lies in the text
  module _ (i : ℕ) where
    WordIn : Word → Type 0
    WordIn (word.Found t) = Inside s i t.end
    WordIn word.Missing = Unit {0}
    WordIn (word.Barred n p) = BarredIn s n p

    TimeIn : Time → Type 0
    TimeIn (time.Power n e) = Inside s i e
    TimeIn time.Unformed = Unit {0}
    TimeIn (time.Barred n p) = BarredIn s n p

    RawIn : Option (ℕ × ℕ) → Type 0
    RawIn (Some (e, n)) = Inside s i (e + 1) × Barring n
    RawIn None = Unit {0}

    record LineIn (l : IncludeLine) : Type 0 where
      ends : i ≤ length s → Inside s i l.end
      fault_in : FaultIn s l.bars

    ReadIn : Read → Type 0
    ReadIn (Said a b e) = i ≤ length s → Inside s i e
    ReadIn Unformed = Unit {0}
    ReadIn (Barred n p) = BarredIn s n p

    FormIn : Form → Type 0
    FormIn (form.Formed v e) = i ≤ length s → Inside s i e
    FormIn form.Unformed = Unit {0}
    FormIn (form.Barred n p) = BarredIn s n p

    -- ---- words, and forms by the next word

    word_in : (j : ℕ) → i ≤ j → WordIn (word_at s j)
    unfolding WordIn
    word_in j h =
        let k = word_start s j in
        let t = token_at in_file s k in
        by_next s j WordIn tt (λ l e. fault_barred s (fault_of t) (token_fault in_file k (omega arith)) e)
        (λ l. token_in in_file s i k (omega (arith, start_past s j)) l)

    module _ (by : Word → Read) (found : (t : Token) → Inside s i t.end → ReadIn (by (word.Found t)))
        (missing : ReadIn (by word.Missing)) (stopped : (n p : ℕ) → BarredIn s n p → ReadIn (by (word.Barred n p))) where
      by_word : (w : Word) → WordIn w → ReadIn (by w)
      unfolding WordIn
      by_word (word.Found t) h = found t h
      by_word word.Missing h = missing
      by_word (word.Barred n p) h = stopped n p h

      next_word : (j : ℕ) → i ≤ j → ReadIn (by (word_at s j))
      next_word j h = by_word (word_at s j) (word_in j h)

    -- ---- times

    power_in : (w : List ℕ) (n e : ℕ) → Inside s i e → TimeIn (power w n e)
    unfolding TimeIn
    power_in w n e h = by_test TimeIn (eqb (unit_of w) Unknown) (λ q. tt) (λ q. h)

    unit-by : (n : ℕ) (w : Word) → WordIn w → TimeIn (unit_by s n w)
    unfolding WordIn TimeIn
    unit-by n (word.Found t) h = by_test TimeIn (is Name t) (λ e. power_in (part s t.at t.end) n t.end h) (λ e. tt)
    unit-by n word.Missing h = tt
    unit-by n (word.Barred b p) h = h

    unit-after : (t : Token) (k n : ℕ) → Inside s i t.end → TimeIn (unit_after s t k n)
    unfolding unit_after
    unit-after t k n h =
        by_test TimeIn (eqb (t.at + k) t.end) (λ e. unit-by n (word_at s t.end) (word_in t.end h.past))
        (λ e. power_in (part s (t.at + k) t.end) n t.end h)

    magnitude_in : (t : Token) → Inside s i t.end → TimeIn (magnitude s t)
    unfolding TimeIn magnitude
    magnitude_in t h =
        by_test TimeIn (not (is Number t)) (λ e. tt)
        (λ e. by_test TimeIn (begins (drop t.at s) (bytes "100")) (λ e. unit-after t 3 2 h)
        (λ e. by_test TimeIn (begins (drop t.at s) (bytes "10")) (λ e. unit-after t 2 1 h)
        (λ e. by_test TimeIn (begins (drop t.at s) (bytes "1")) (λ e. unit-after t 1 0 h) (λ e. tt))))

    time-by : (w : Word) → WordIn w → TimeIn (time_by s w)
    unfolding WordIn TimeIn
    time-by (word.Found t) h = magnitude_in t h
    time-by word.Missing h = tt
    time-by (word.Barred b p) h = h

    time_in : (j : ℕ) → i ≤ j → TimeIn (time_at s j)
    unfolding time_at
    time_in j h = time-by (word_at s j) (word_in j h)

    precision-by : (u : ℕ) (t : Time) → TimeIn t → ReadIn (precision_by u t)
    unfolding TimeIn ReadIn
    precision-by u (time.Power p e) h = by_test ReadIn (ltb u p) (λ q. tt) (λ q w. h)
    precision-by u time.Unformed h = tt
    precision-by u (time.Barred b p) h = h

    slash_found : (u : ℕ) (t : Token) → Inside s i t.end → ReadIn (slash_by s u (word.Found t))
    unfolding ReadIn precision_form
    slash_found u t h =
        by_test ReadIn (is_byte s 47 t) (λ e. precision-by u (time_at s t.end) (time_in t.end h.past)) (λ e. tt)

    timescale-by : (t : Time) → TimeIn t → ReadIn (timescale_by s t)
    unfolding TimeIn ReadIn slash_form
    timescale-by (time.Power u e) h = next_word (slash_by s u) (slash_found u) tt (λ n p h. h) e h.past
    timescale-by time.Unformed h = tt
    timescale-by (time.Barred b p) h = h

    -- a word of a table
    entry_found : (d : ℕ) (t : Token) → Inside s i t.end → ReadIn (entry_by d s (word.Found t))
    unfolding ReadIn
    entry_found d t h =
        by_test ReadIn (not (is (entry_kind d) t)) (λ q. tt)
        (λ q. by_test ReadIn (eqb (entry_in d (part s t.at t.end)) Unknown) (λ q. tt) (λ q w. h))

    -- ---- an include's line

    raw_in : (ok : Bool) (j : ℕ) (xs : List ℕ) → i ≤ j → j + length xs ≤ length s → RawIn (raw_from ok j xs)
    unfolding RawIn raw_from
    raw_in ok j [] h l = tt
    raw_in ok j (x ∷ xs) h l =
        by_test RawIn (eqb x 62) (λ e. (record { past = omega arith; within = omega arith }, illegal_bar ok 0 (numbered_none 6)))
        (λ e. by_test RawIn (eqb x 10) (λ e. tt) (λ e. raw_in (ok && is_legal x) (suc j) xs (omega arith) (omega arith)))

    behind_in : (n : FileName) (e : ℕ) (f : Fault) (other : Bool) (ts : List Token) → Inside s i e → FaultIn s f → TokensIn s ts
        → LineIn (behind s n e f other ts)
    unfolding TokensIn behind
    behind_in n e f other [] p h g = record { ends = λ w. p; fault_in = h }
    behind_in n e f other (t ∷ ts) p h g =
        let k = worse_in f (fault_of t) h g.0 in
        by_test LineIn (is Newline t) (λ q. record { ends = λ w. p; fault_in = h })
        (λ q. by_test LineIn (wraps s t) (λ q. record { ends = λ w. p; fault_in = k })
        (λ q. behind_in n e (worse_of f (fault_of t)) (other || not (is_gap t)) ts p k g.1))

    behind-at : (n : FileName) (e : ℕ) (f : Fault) → Inside s i e → FaultIn s f → LineIn (behind_at s n e f)
    unfolding behind_at
    behind-at n e f p h = behind_in n e f false (tokens in_file s e) p h (tokens_in in_file e)

    angled-by : (j e : ℕ) (f : Fault) (r : Option (ℕ × ℕ)) → j ≤ length s → Inside s i e → FaultIn s f → RawIn r → LineIn (angled_by s j e f r)
    unfolding RawIn
    angled-by j e f (Some (x, n)) l p h g =
        behind-at _ (x + 1) (worse_of f (fault n j)) g.0 (worse_in f (fault n j) h (record { bars = g.1; place_in = l }))
    angled-by j e f None l p h g = behind-at _ e f p h

    name-at : (t : Token) (f : Fault) → Inside s i t.end → FaultIn s (fault_of t) → FaultIn s f → LineIn (name_at s t f)
    unfolding name_at raw_end
    name-at t f p g h =
        let k = worse_in f (fault_of t) h g in
        by_test LineIn (is_byte s 60 t)
        (λ e. angled-by t.at t.end f (raw_end s t.end) g.place_in p h
        (raw_in true t.end (drop t.end s) p.past (omega (arith, p.within, length-drop t.end s))))
        (λ e. by_test LineIn (is String t) (λ e. behind-at _ t.end _ p k) (λ e. behind-at _ t.end _ p k))

    unnamed : (f : Fault) → FaultIn s f → LineIn (line f file.Unnamed i false)
    unnamed f h = record { ends = inside_here s i; fault_in = h }

    include-in : LineIn (include_at s i)
    unfolding include_at include_in
    include-in =
        by_tokens s (λ (m : Mode) (j : ℕ) (ts : List Token). (f : Fault) → i ≤ j → FaultIn s f → LineIn (include_in s i f ts))
        (λ m j l f h g. unnamed f g) (λ m j l q f h g. unnamed f g)
        (λ m j l q r f h g. let t = token_at m s j in
        let p : Inside s i t.end = token_in m s i j h l in
        let b : FaultIn s (fault_of t) = token_fault m j (omega arith) in
        let k = worse_in f (fault_of t) g b in
        by_test LineIn (is Newline t) (λ e. unnamed f g)
        (λ e. by_test LineIn (wraps s t) (λ e. unnamed _ k)
        (λ e. by_test LineIn (not (is_gap t)) (λ e. name-at t f p b g) (λ e. r (worse_of f (fault_of t)) p.past k))))
        in_file i no_fault (omega arith) none_in

    pub include_inside : i ≤ length s → Inside s i (include_at s i).end
    include_inside w = include-in.ends w

    pub include_fault : FaultIn s (include_at s i).bars
    include_fault = include-in.fault_in

    -- ---- forms

    named-by : (n : FileName) (e : ℕ) → (i ≤ length s → Inside s i e) → ReadIn (named_by n e)
    unfolding ReadIn
    named-by file.Unnamed e h = tt
    named-by (file.Quoted a b) e h = h
    named-by (file.Angled a b) e h = h

    line_in : (l : IncludeLine) → LineIn l → ReadIn (line_form l)
    unfolding ReadIn
    line_in l h =
        by_test ReadIn (eqb l.bars.number 0) (λ e. named-by l.file l.end h.ends)
        (λ e. fault_barred s l.bars h.fault_in e)

    read_in : (d : ℕ) → ReadIn (read_at d s i)
    unfolding ReadIn read_at undef_form include_form timescale_form entry_form
    read_in d =
        let h : i ≤ i = omega arith in
        by_test ReadIn (eqb d Undef)
        (λ e. next_word undef_by (λ t h. by_test ReadIn (is Name t || is Escaped t) (λ q w. h) (λ q. tt)) tt (λ n p h. h) i h)
        (λ e. by_test ReadIn (stands_alone d) (λ e. inside_here s i)
        (λ e. by_test ReadIn (eqb d Include) (λ e. line_in (include_at s i) include-in)
        (λ e. by_test ReadIn (eqb d Timescale) (λ e. timescale-by (time_at s i) (time_in i h))
        (λ e. by_test ReadIn (takes_entry d) (λ e. next_word (entry_by d s) (entry_found d) tt (λ n p h. h) i h) (λ e. tt)))))

    form-by : (d : ℕ) (r : Read) → ReadIn r → FormIn (form_by d r)
    unfolding ReadIn FormIn
    form-by d (Said a b e) h = h
    form-by d Unformed h = tt
    form-by d (Barred n p) h = h

    form_in : (d : ℕ) → FormIn (form_at d s i)
    unfolding form_at
    form_in d = form-by d (read_at d s i) (read_in d)

    pub form_inside : i ≤ length s → (d : ℕ) (v : Value) (e : ℕ) → form_at d s i ≡ form.Formed v e → Inside s i e
    unfolding FormIn
    form_inside w d v e q = subst FormIn q (form_in d) w

  pub form_bars : (d i n p : ℕ) → form_at d s i ≡ form.Barred n p → BarredIn s n p
  unfolding FormIn
  form_bars d i n p q = subst (FormIn i) q (form_in i d)
