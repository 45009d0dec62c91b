-- What is known of each pending token of an expansion: nothing bars it, and a grave accent name in it is no directive but one of
-- the two `__` words.
-- Assumes nothing.
use Prim.Native.Nat.{ℕ, ◌<◌}
use mathlib.Core.Bool.{Bool, true, false, not, ◌&&◌, ◌||◌}
use mathlib.Core.Option.{none, some}
use mathlib.Core.List.Memᴰ.{head as first}
use mathlib.Core.List.Memᴰ.{tail as later}
use mathlib.Core.List.{List, [], ◌∷◌, Memᴰ as In}
use mathlib.Core.Path.{◌≡◌, refl, sym, ap, subst, ◌∙◌}
use lib.Dec.{eqb, leb}
use lib.ListN.{length, get_or}
use borrow.Author.Tests.{eqb-true, not-true, not-false}
use Rattle.text.specs.Bytes.{holds, part}
use Rattle.lex.specs.Tokens.{in_file, in_text, String, Grave, is, marks_after, name_of, token_at, tokens}
use Rattle.lex.specs.declared.Mode.{Mode}
use Rattle.lex.specs.declared.Token.{Token}
use Rattle.lex.proofs.Tests.{by_test, and_left, and_right, true_false}
use Rattle.lex.proofs.Listing.{by_tokens}
use Rattle.names.specs.Names.{bars_text}
use Rattle.brackets.specs.Steps.{Step, on, done, torn}
use Rattle.storing.specs.Stored.{joined_from}
use Rattle.afresh.specs.Judging.{is_barred as isBarredToken, barred_grave}
use Rattle.afresh.specs.Unfit.{is_accented, held_by, unless, is_stray, is_unfit, unfit_in, unfit_text, unfit_held, unfit_default}
use Rattle.definition.specs.Definitions.{Parameter, parameter, macro}
use Rattle.genuine.specs.Fitness.{fit_name, is_trimmed, fit_stored, fit_formal, is_named, fit_parameter, fit_parameters, fit_macro}
use Rattle.genuine.proofs.Tests.{or_left, or_right, and_second, passed}
use Rattle.genuine.proofs.Fitting.{good_fit}
use Rattle.pending.specs.Pending.{Pending, file_token, text_token, is_comment, kind_view, view, is_barred}
use Rattle.pending.proofs.Viewing.{free_bar}
use Rattle.replace.specs.Tidying.{cleaned}
use Rattle.macros.proofs.Each.{Each, each_none, each_with}
use Rattle.turns.specs.States.{Context}
use Rattle.turns.specs.Files.{file_of, token_in}
use Rattle.claims.specs.Pieces.{Defined, Source, of_list, of_text, of_default, tidied}
use Rattle.claims.proofs.PiecesTokens.{is_accent, Begins, token_begins}

in_each : {A : Type 0} (P : A → Type 0) {a : A} {l : List A} → In a l → Each P l → P a
unfolding Each
in_each P (first e) h = subst P (sym e) h.0
in_each P (later m) h = in_each P m h.1

-- ---- the tokens of a text

-- a token that stands in the text w
record Stands (w : List ℕ) (t : Token) : Type 0 where
  mode : Mode
  at : ℕ
  inside : at < length w
  same : t ≡ token_at mode w at

tokens_stand : (w : List ℕ) (m : Mode) (i : ℕ) → Each (Stands w) (tokens m w i)
tokens_stand w m i =
    by_tokens w (λ (m : Mode) (j : ℕ) (ts : List Token). Each (Stands w) ts) (λ m j l. each_none (Stands w)) (λ m j l q. each_none (Stands w))
    (λ m j l q r. each_with (Stands w) _ _ (record { mode = m; at = j; inside = l; same = refl }) r) m i

-- one that nothing bars, no directive
record Fit (w : List ℕ) (t : Token) : Type 0 where
  free : eqb t.bar 0 ≡ true
  word : is Grave t ≡ true → bars_text (name_of w t) ≡ false

text_fit : (w : List ℕ) (odd : Bool) (ts : List Token) → unfit_in w odd ts ≡ false → Each (Fit w) ts
unfolding Each unfit_in
text_fit w odd [] e = tt
text_fit w odd (t ∷ ts) e =
    let p = passed (is_unfit w odd t || barred_grave w t) (unfit_in w (marks_after odd t) ts) e in (
      record {
        free = not-false (eqb t.bar 0) (or_left (isBarredToken t) (is_stray w odd t) (or_left (is_unfit w odd t) (barred_grave w t) p.0));
        word = λ g. and_second (is Grave t) (bars_text (name_of w t)) g (or_right (is_unfit w odd t) (barred_grave w t) p.0);
      },
      text_fit w (marks_after odd t) ts p.1,
    )

-- one that nothing bars, without a grave accent outside a string
record Plain (w : List ℕ) (t : Token) : Type 0 where
  free : eqb t.bar 0 ≡ true
  none : is String t ≡ false → holds 96 (part w t.at t.end) ≡ false

unless_plain : (s : Step) (go : List ℕ → Bool) (P : Type 0) → unless s go ≡ false → ((ks : List ℕ) → go ks ≡ false → P) → P
unless_plain (on ks) go P e f = f ks e
unless_plain done go P e f = true_false true refl e
unless_plain torn go P e f = true_false true refl e

default_plain : (w ks : List ℕ) (ts : List Token) → unfit_held w ks ts ≡ false → Each (Plain w) ts
unfolding Each unfit_held
default_plain w ks [] e = tt
default_plain w ks (t ∷ ts) e =
    let p = passed (is_unfit w false t || is_accented w t) (unless (held_by w t ks) (λ js. unfit_held w js ts)) e in (
      record {
        free = not-false (eqb t.bar 0) (or_left (isBarredToken t) (is_stray w false t) (or_left (is_unfit w false t) (is_accented w t) p.0));
        none = λ g. and_second (not (is String t)) (holds 96 (part w t.at t.end)) (ap not g) (or_right (is_unfit w false t) (is_accented w t) p.0);
      },
      unless_plain (held_by w t ks) (λ js. unfit_held w js ts) (Each (Plain w) ts) p.1 (λ js q. default_plain w js ts q),
    )

holds_first : (b : ℕ) (l : List ℕ) → eqb 0 b ≡ false → holds b l ≡ false → eqb (get_or l 0 0) b ≡ false
unfolding holds
holds_first b [] z e = z
holds_first b (c ∷ l) z e = or_left (eqb c b) (holds b l) e

-- ---- the texts of a macro

DefaultGood : Parameter → Type 0
DefaultGood (parameter f none) = Unit {0}
DefaultGood (parameter f (some d)) = unfit_default d ≡ false

stored_text : (w : List ℕ) → fit_stored true w ≡ true → unfit_text w ≡ false
unfolding fit_stored
stored_text w e = not-true (unfit_text w) (and_right (is_trimmed w) (not (unfit_text w)) e)

stored_default : (d : List ℕ) → fit_stored false d ≡ true → unfit_default d ≡ false
unfolding fit_stored
stored_default d e = not-true (unfit_default d) (and_right (is_trimmed d) (not (unfit_default d)) e)

parameter_good : (p : Parameter) (ps : List Parameter) → fit_parameter p ps ≡ true → DefaultGood p
unfolding DefaultGood
parameter_good (parameter f none) ps e = tt
parameter_good (parameter f (some d)) ps e =
    stored_default d (and_left (fit_stored false d) (not (is_named f ps)) (and_right (fit_formal f) (fit_stored false d && not (is_named f ps)) e))

parameters_good : (ps : List Parameter) → fit_parameters ps ≡ true → Each DefaultGood ps
unfolding Each fit_parameters
parameters_good [] e = tt
parameters_good (p ∷ ps) e =
    (parameter_good p ps (and_left (fit_parameter p ps) (fit_parameters ps) e), parameters_good ps (and_right (fit_parameter p ps) (fit_parameters ps) e))

module _ {x : Context} {n w : List ℕ} {fs : List Parameter} (k : Defined x (macro n fs w)) where
  fit_rest : (fit_parameters fs && fit_stored true w) ≡ true
  unfolding fit_macro
  fit_rest =
      let e : fit_macro (macro n fs w) ≡ true = good_fit (file_of x k.file) (token_in x k.file k.at).end (macro n fs w) k.end k.gives in
      and_right (leb (length fs) 16) (fit_parameters fs && fit_stored true w)
      (and_right (fit_name n) (leb (length fs) 16 && (fit_parameters fs && fit_stored true w)) e)

  defined_text : unfit_text w ≡ false
  defined_text = stored_text w (and_right (fit_parameters fs) (fit_stored true w) fit_rest)

  defined_default : {f d : List ℕ} → In (parameter f (some d)) fs → unfit_default d ≡ false
  unfolding DefaultGood
  defined_default a = in_each DefaultGood a (parameters_good fs (and_left (fit_parameters fs) (fit_stored true w) fit_rest))

-- ---- pending tokens

pub record Tame (q : Pending) : Type 0 where
  pub free : eqb q.bar 0 ≡ true
  pub word : eqb q.kind Grave ≡ true → bars_text q.name ≡ false
  pub accent : is_accent q.kind ≡ eqb (get_or q.bytes 0 0) 96
  pub string : eqb q.kind String ≡ true → eqb (get_or q.bytes 0 0) 34 ≡ true

-- the first byte of a token that nothing bars
stands_begins : (w : List ℕ) (t : Token) (h : Stands w t) → eqb t.bar 0 ≡ true → Begins h.mode (get_or (part w t.at t.end) 0 0) t
stands_begins w t h e =
    subst (λ (u : Token). Begins h.mode (get_or (part w u.at u.end) 0 0) u) (sym h.same)
    (token_begins h.mode w h.at h.inside (ap (λ (u : Token). eqb u.bar 0) (sym h.same) ∙ e))

-- a token of a stored text or default
text_tame : (w set : List ℕ) (t : Token) → Stands w t → Fit w t → Tame (text_token w set t)
text_tame w set t h g =
    let z = stands_begins w t h g.free in
    record { free = refl; word = g.word; accent = z.accent; string = z.string }

-- a default has no grave accent name
default_fit : (w : List ℕ) (t : Token) → Stands w t → Plain w t → Fit w t
default_fit w t h g =
    let b = part w t.at t.end in
    record {
      free = g.free;
      word = λ a. let k = eqb-true t.kind Grave a in
          true_false (eqb (get_or b 0 0) 96) (sym (stands_begins w t h g.free).accent ∙ ap is_accent k)
          (holds_first 96 b refl (g.none (ap (λ (n : ℕ). eqb n String) k)));
    }

-- a directive is refused in a list
view_word : (q : Pending) → is_barred (view q) ≡ false → eqb q.kind Grave ≡ true → bars_text q.name ≡ false
unfolding view kind_view
view_word q h g = go (bars_text q.name) refl
  where
    go : (b : Bool) → bars_text q.name ≡ b → b ≡ false
    go false e = refl
    go true e = true_false (is_barred (view q)) (rw (free_bar q h, eqb-true q.kind Grave g, e)) h

joined_first : (l : List ℕ) → eqb (get_or l 0 0) 34 ≡ true → eqb (get_or (joined_from false l) 0 0) 34 ≡ true
unfolding joined_from
joined_first [] e = e
joined_first (b ∷ l) e = rw (eqb-true b 34 e)

cleaned_tame : (q : Pending) → Tame q → Tame (cleaned q)
cleaned_tame q h =
    by_test Tame (is_comment q.kind)
    (λ e. record { free = refl; word = λ z. true_false false z refl; accent = refl; string = λ z. true_false false z refl })
    (λ e. by_test Tame (eqb q.kind String)
    (λ s. let j : eqb (get_or (joined_from false q.bytes) 0 0) 34 ≡ true = joined_first q.bytes (h.string s) in
    record {
      free = refl;
      word = λ z. true_false false z refl;
      accent = sym (ap (λ (b : ℕ). eqb b 96) (eqb-true (get_or (joined_from false q.bytes) 0 0) 34 j));
      string = λ z. j;
    })
    (λ s. record { free = refl; word = h.word; accent = h.accent; string = h.string }))

pub source_tame : (x : Context) (i : ℕ) (q : Pending) → Source x i q → Tame q
unfolding unfit_text unfit_default
source_tame x i q (of_list p r e) =
    let t = token_in x i p in
    let z = token_begins in_file (file_of x i) p r.inside r.free in
    record { free = r.free; word = view_word (file_token (file_of x i) t) e; accent = z.accent; string = z.string }
source_tame x i q (of_text {w = w} set t k a) =
    text_tame w set t (in_each (Stands w) a (tokens_stand w in_text 0)) (in_each (Fit w) a (text_fit w false (tokens in_text w 0) (defined_text k)))
source_tame x i q (of_default {d = d} set t k f a) =
    let h : Stands d t = in_each (Stands d) a (tokens_stand d in_file 0) in
    text_tame d set t h (default_fit d t h (in_each (Plain d) a (default_plain d [] (tokens in_file d 0) (defined_default k f))))
source_tame x i q (tidied {p = p} h) = cleaned_tame p (source_tame x i p h)
