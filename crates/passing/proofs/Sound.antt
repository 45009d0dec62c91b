-- The defaults of fit macros: their brackets match, no comma stands outside them, and none of their tokens is a usage.
-- Assumes nothing.
use Prim.Native.Nat.{ℕ, zero, suc, ◌+◌, ◌<◌}
use mathlib.Core.Bool.{Bool, true, false, cond, not, ◌&&◌, ◌||◌}
use mathlib.Core.Option.{Option, none, some}
use mathlib.Core.List.{List, [], ◌∷◌}
use mathlib.Core.Path.{◌≡◌, refl, ap, ◌∙◌}
use lib.Dec.{eqb, leb}
use lib.ListN.{length, get_or}
use borrow.Author.Tests.{eqb-true, not-true}
use Rattle.text.specs.Bytes.{holds, part}
use Rattle.text.proofs.Matching.{part_more, holds_hit}
use Rattle.lex.specs.declared.Mode.{Mode}
use Rattle.lex.specs.declared.Token.{Token}
use Rattle.lex.specs.Classes.{is_white, is_digit, is_start, is_sign, is_base}
use Rattle.lex.specs.Scans.{span_end}
use Rattle.lex.specs.Tokens.{in_file, String, Name, Escaped, Quote, Grave, Byte, is, string_token, slash_token, backslash_token, digits_token, based_token, sign_token, name_of, token_at, mode_after, tokens}
use Rattle.lex.proofs.Tests.{by_test, and_left, and_right, true_false}
use Rattle.lex.proofs.Progress.{token-at, token_ends}
use Rattle.lex.proofs.Listing.{by_tokens}
use Rattle.brackets.specs.Steps.{Step, on, done, torn, step_of}
use Rattle.afresh.specs.Unfit.{is_accented, held_by, unless, is_unfit, unfit_held, unfit_default}
use Rattle.definition.specs.Definitions.{Parameter, parameter, Macro, macro}
use Rattle.store.specs.Stores.{macro_at}
use Rattle.genuine.specs.Fitness.{is_trimmed, fit_stored, fit_default, fit_formal, is_named, fit_parameters, fit_name, fit_macro, all_fit}
use Rattle.genuine.proofs.Tests.{or_left, or_right, passed}
use Rattle.pending.specs.Pending.{text_token, text_tokens, View, blanks, names, plain, byte_view, is_blank, kind_view, is_call, view}
use Rattle.arguments.specs.Arguments.{keep, move_of}
use Rattle.arguments.proofs.Moves.{step_keeps}
use Rattle.replace.specs.Replacing.{fallback}
use Rattle.expand.proofs.Naming.{byte_quiet}
use Rattle.passing.specs.Passing.{formals_of}
use Rattle.passing.specs.Chains.{no_usage}
use Rattle.passing.proofs.Lists.{views, Shut, done as shut-done, more}
use Rattle.passing.proofs.Keeping.{Sound, sound_nil, sound_cons}

-- ---- quote marks and usages begin with a grave accent

abbrev Mild : Token → Type 0
Mild t = (is Quote t || is Grave t) ≡ false

-- a token that does not is neither
module _ (m : Mode) (s : List ℕ) (i : ℕ) (n : eqb (get_or s i 0) 96 ≡ false) where
  digits_mild : (j : ℕ) → Mild (digits_token s i j)
  unfolding digits_token
  digits_mild j = by_test Mild (is_base (get_or s j 0)) (λ e. refl) (λ e. refl)

  sign_mild : Mild (sign_token m s i (get_or s i 0))
  unfolding sign_token string_token slash_token backslash_token based_token
  sign_mild =
      by_test Mild (eqb (get_or s i 0) 34)
      (λ e. by_test Mild (eqb (get_or s (i + 1) 0) 34 && eqb (get_or s (i + 2) 0) 34) (λ e. refl) (λ e. refl))
      (λ e. by_test Mild (eqb (get_or s i 0) 47)
      (λ e. by_test Mild m.marks (λ e. refl)
      (λ e. by_test Mild (eqb (get_or s (i + 1) 0) 47) (λ e. refl)
      (λ e. by_test Mild (eqb (get_or s (i + 1) 0) 42) (λ e. refl) (λ e. refl))))
      (λ e. by_test Mild (eqb (get_or s i 0) 92)
      (λ e. by_test Mild (m.define && eqb (get_or s (i + 1) 0) 10) (λ e. refl)
      (λ e. by_test Mild m.marks (λ e. refl)
      (λ e. by_test Mild (eqb (span_end true true s (i + 1)).end (i + 1)) (λ e. refl) (λ e. refl))))
      (λ e. by_test Mild (eqb (get_or s i 0) 39)
      (λ e. by_test Mild (is_sign (get_or s (i + 1) 0)) (λ e. digits_mild (i + 2)) (λ e. digits_mild (i + 1)))
      (λ e. by_test Mild (eqb (get_or s i 0) 96) (λ e. true_false (eqb (get_or s i 0) 96) e n) (λ e. refl)))))

  begins_mild : Mild (token_at m s i)
  unfolding token_at
  begins_mild =
      by_test Mild (leb (length s) i) (λ e. refl)
      (λ e. by_test Mild (is_white (get_or s i 0)) (λ e. refl)
      (λ e. by_test Mild (is_start (get_or s i 0)) (λ e. refl)
      (λ e. by_test Mild (is_digit (get_or s i 0)) (λ e. refl)
      (λ e. by_test Mild (eqb (get_or s i 0) 10) (λ e. refl)
      (λ e. by_test Mild (eqb (get_or s i 0) 36) (λ e. refl) (λ e. sign_mild))))))

-- so one without a grave accent outside a string is neither
module _ (m : Mode) (s : List ℕ) (i : ℕ) (l : i < length s) where
  abbrev token : Token
  token = token_at m s i

  holds_first : eqb (get_or s i 0) 96 ≡ true → holds 96 (part s token.at token.end) ≡ true
  holds_first e = rw (token-at m s i) (holds_hit 96 s i token.end (token_ends m s i l) l (eqb-true (get_or s i 0) 96 e))

  unaccented_mild : is_accented s token ≡ false → Mild token
  unaccented_mild = go (is String token) refl
    where
      first : (b : Bool) → eqb (get_or s i 0) 96 ≡ b → holds 96 (part s token.at token.end) ≡ false → Mild token
      first true e h = true_false (holds 96 (part s token.at token.end)) (holds_first e) h
      first false e h = begins_mild m s i e

      go : (b : Bool) → is String token ≡ b → (not b && holds 96 (part s token.at token.end)) ≡ false → Mild token
      go true e h = rw (eqb-true token.kind String e)
      go false e h = first (eqb (get_or s i 0) 96) refl h

  -- the first of its bytes
  first_is : get_or (part s token.at token.end) 0 0 ≡ get_or s token.at 0
  first_is = rw (token-at m s i, part_more s i token.end (token_ends m s i l) l)

-- ---- what a token does among a default's brackets it does in a list

-- no usage, and a part of an argument: these are due before it and after it
record Kept (v : View) (ks js : List ℕ) : Type 0 where
  moves : move_of v ks ≡ keep js
  quiet : is_call v ≡ false

on_same : (ks js : List ℕ) → on ks ≡ on js → ks ≡ js
on_same ks js e = cc

module _ (js : List ℕ) where
  -- a token of this step, if these are due after it
  abbrev On : View → List ℕ → Step → Type 0
  On v ks s = s ≡ on js → Kept v ks js

  goes_on : (v : View) (ks us : List ℕ) → move_of v ks ≡ keep us → is_call v ≡ false → On v ks (on us)
  goes_on v ks us h q e = record { moves = h ∙ ap (λ (z : List ℕ). keep z) (on_same us js e); quiet = q }

  -- a byte that is a token
  byte_kept : (b : ℕ) (ks : List ℕ) → On (byte_view b) ks (step_of b ks)
  byte_kept b ks e = record { moves = step_keeps b ks js e; quiet = byte_quiet b }

  -- a token by its kind, its first byte and its name
  kind_kept : (k b : ℕ) (w ks : List ℕ) → (eqb k Quote || eqb k Grave) ≡ false → On (kind_view k b w) ks (cond (eqb k Byte) (step_of b ks) (on ks))
  unfolding kind_view
  kind_kept k b w ks h = go (eqb k Byte) refl
    where
      go : (t : Bool) → eqb k Byte ≡ t → On (kind_view k b w) ks (cond t (step_of b ks) (on ks))
      go true e = rw (eqb-true k Byte e) (byte_kept b ks)
      go false e =
          rw (e, or_left (eqb k Quote) (eqb k Grave) h, or_right (eqb k Quote) (eqb k Grave) h)
          (by_test (λ (v : View). On v ks (on ks)) (is_blank k) (λ q. goes_on blanks ks ks refl refl)
          (λ q. by_test (λ (v : View). On v ks (on ks)) (eqb k Name || eqb k Escaped) (λ q. goes_on (names w) ks ks refl refl) (λ q. goes_on plain ks ks refl refl)))

-- ---- a default

-- a step that leaves a default not bad goes on
record Onward (s : Step) (go : List ℕ → Bool) : Type 0 where
  due : List ℕ
  steps : s ≡ on due
  rest : go due ≡ false

unless_on : (s : Step) (go : List ℕ → Bool) → unless s go ≡ false → Onward s go
unless_on (on ks) go h = record { due = ks; steps = refl; rest = h }
unless_on done go h = true_false true refl h
unless_on torn go h = true_false true refl h

-- tokens of a default, with these brackets due before them
record Closed (d set ks : List ℕ) (ts : List Token) : Type 0 where
  shuts : Shut (views (text_tokens d set ts)) ks
  quiet : no_usage (text_tokens d set ts) ≡ true

closed_none : (d set ks : List ℕ) → unfit_held d ks [] ≡ false → Closed d set ks []
unfolding unfit_held text_tokens no_usage
closed_none d set [] h = record { shuts = shut-done; quiet = refl }
closed_none d set (k ∷ ks) h = true_false true refl h

closed_next : (m : Mode) (d set : List ℕ) (i : ℕ) → i < length d → (ks : List ℕ) (ts : List Token)
    → ((js : List ℕ) → unfit_held d js ts ≡ false → Closed d set js ts) → unfit_held d ks (token_at m d i ∷ ts) ≡ false → Closed d set ks (token_at m d i ∷ ts)
unfolding unfit_held text_tokens no_usage view
closed_next m d set i l ks ts f h =
    let t : Token = token_at m d i in
    let p = passed (is_unfit d false t || is_accented d t) (unless (held_by d t ks) (λ js. unfit_held d js ts)) h in
    let o : Onward (held_by d t ks) (λ js. unfit_held d js ts) = unless_on (held_by d t ks) (λ js. unfit_held d js ts) p.1 in
    let a : Mild t = unaccented_mild m d i l (or_right (is_unfit d false t) (is_accented d t) p.0) in
    let k : Kept (view (text_token d set t)) ks o.due =
    rw (first_is m d i l) (kind_kept o.due t.kind (get_or d t.at 0) (name_of d t) ks a o.steps) in
    let c : Closed d set o.due ts = f o.due o.rest in
    record { shuts = more o.due k.moves c.shuts; quiet = rw k.quiet c.quiet }

default_closed : (d set : List ℕ) → unfit_default d ≡ false → Closed d set [] (tokens in_file d 0)
unfolding unfit_default
default_closed d set h =
    by_tokens d (λ (m : Mode) (i : ℕ) (ts : List Token). (ks : List ℕ) → unfit_held d ks ts ≡ false → Closed d set ks ts)
    (λ m i l ks. closed_none d set ks) (λ m i l q ks. closed_none d set ks)
    (λ m i l q r ks. closed_next m d set i l ks (tokens (mode_after m (token_at m d i)) d (token_at m d i).end) r) in_file 0 [] h

-- ---- fit parameters

fit_good : (d : List ℕ) → fit_stored false d ≡ true → unfit_default d ≡ false
unfolding fit_stored
fit_good d h = not-true (unfit_default d) (and_right (is_trimmed d) (not (unfit_default d)) h)

fallback_shut : (d : Option (List ℕ)) → fit_default d ≡ true → (set : List ℕ) → Shut (views (fallback set d)) []
fallback_shut none h set = shut-done
fallback_shut (some d) h set = (default_closed d set (fit_good d h)).shuts

fallback_quiet : (d : Option (List ℕ)) → fit_default d ≡ true → (set : List ℕ) → no_usage (fallback set d) ≡ true
unfolding no_usage
fallback_quiet none h set = refl
fallback_quiet (some d) h set = (default_closed d set (fit_good d h)).quiet

pub fit_sound : (fs : List Parameter) → fit_parameters fs ≡ true → Sound fs
unfolding fit_parameters
fit_sound [] h = sound_nil
fit_sound (parameter f d ∷ fs) h =
    let a : Bool = fit_default d && not (is_named f fs) in
    let b : (fit_formal f && a) ≡ true = and_left (fit_formal f && a) (fit_parameters fs) h in
    let c : fit_default d ≡ true = and_left (fit_default d) (not (is_named f fs)) (and_right (fit_formal f) a b) in
    sound_cons (fallback_shut d c) (fallback_quiet d c) (fit_sound fs (and_right (fit_formal f && a) (fit_parameters fs) h))

-- ---- fit macros, by their numbers

pub macro_sound : (m : Macro) → fit_macro m ≡ true → Sound (formals_of m)
unfolding fit_macro
macro_sound (macro n fs t) h =
    let c : Bool = fit_parameters fs && fit_stored true t in
    let b : Bool = leb (length fs) 16 && c in
    fit_sound fs (and_left (fit_parameters fs) (fit_stored true t) (and_right (leb (length fs) 16) c (and_right (fit_name n) b h)))

pub stored_sound : (ms : List Macro) → all_fit ms ≡ true → (i : ℕ) → Sound (formals_of (macro_at ms i))
unfolding all_fit
stored_sound [] h i = sound_nil
stored_sound (m ∷ ms) h zero = macro_sound m (and_left (fit_macro m) (all_fit ms) h)
stored_sound (m ∷ ms) h (suc i) = stored_sound ms (and_right (fit_macro m) (all_fit ms) h) i
