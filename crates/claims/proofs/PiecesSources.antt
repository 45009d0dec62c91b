-- Each pending token of an expansion is a token of the usage's list, of a macro's text or of a default.
-- Assumes nothing.
use Prim.Native.Nat.{ℕ, ◌<◌}
use mathlib.Core.Bool.{false, ◌&&◌}
use mathlib.Core.Option.{Option, none, some}
use mathlib.Core.List.Memᴰ.{head as first}
use mathlib.Core.List.Memᴰ.{tail as later}
use mathlib.Core.List.{List, [], ◌∷◌, Memᴰ as In}
use mathlib.Core.Path.{◌≡◌, refl, sym, ap, subst}
use native.Mathlib.Omega.{arith}
use lib.Dec.{eqb}
use lib.ListN.{length}
use Rattle.text.specs.Bytes.{same}
use Rattle.lex.specs.Tokens.{in_file, in_text, token_at, tokens}
use Rattle.lex.specs.declared.Mode.{Mode}
use Rattle.lex.specs.declared.Token.{Token}
use Rattle.lex.proofs.Tests.{by_test}
use Rattle.lex.proofs.Listing.{by_tokens, file_mode, tokens_out}
use Rattle.definition.specs.Definitions.{Parameter, parameter, Macro, macro}
use Rattle.store.specs.Stores.{macro_at, find}
use Rattle.std.proofs.Common.{Result, Ok, Err}
use Rattle.sets.specs.Sets.{elem, insert_asc}
use Rattle.pending.specs.Pending.{Pending, file_token, file_tokens, file_from, text_token, text_tokens, is_spacing, View, blanks, calls, names, opens, closes, commas, bars, plain, view, is_barred}
use Rattle.pending.proofs.Viewing.{free_bar, by_name}
use Rattle.arguments.specs.Arguments.{Move, keep, close, fail, move_of, Args, args, push, split, after, collect, seek_by, seek}
use Rattle.arguments.specs.Arguments as arguments
use Rattle.arguments.proofs.Moves.{stays_free}
use Rattle.replace.specs.Tidying.{before_newline, is_backslash, cleaned_all, drop_left, keep_last, drop_right, tidy, tidy_all}
use Rattle.replace.specs.Replacing.{fallback, or_else, value, instead, image_of, in_place, text_with, Got, refused, got, enough, Listed, listed, accepted, list_for, with_list, replace_by, replace_at, replace}
use Rattle.replace.specs.Replacing as replacing
use Rattle.macros.proofs.Each.{Each, each_none, each_with, each_append}
use Rattle.turns.specs.States.{Context}
use Rattle.turns.specs.Files.{file_of, token_in}
use Rattle.claims.specs.Pieces.{Defined, Source, of_list, of_text, of_default, tidied}
use Rattle.claims.proofs.PiecesMacros.{Known, empty, defined, AllKnown, known_at}

-- ---- tokens

texts_each : (P : Pending → Type 0) (s set : List ℕ) (ts : List Token) → ((t : Token) → In t ts → P (text_token s set t))
    → Each P (text_tokens s set ts)
unfolding text_tokens
texts_each P s set [] h = each_none P
texts_each P s set (t ∷ ts) h = each_with P (text_token s set t) (text_tokens s set ts) (h t (first refl)) (texts_each P s set ts (λ u a. h u (later a)))

module _ (x : Context) (i : ℕ) where
  abbrev pub Sources : List Pending → Type 0
  Sources ps = Each (Source x i) ps

  -- ---- an argument, tidied

  cleaned_sources : (ps : List Pending) → Sources ps → Sources (cleaned_all ps)
  unfolding Each cleaned_all
  cleaned_sources [] h = tt
  cleaned_sources (p ∷ ps) h =
      by_test Sources (is_backslash p && before_newline ps) (λ e. cleaned_sources ps h.1)
      (λ e. (tidied h.0, cleaned_sources ps h.1))

  left_sources : (ps : List Pending) → Sources ps → Sources (drop_left ps)
  unfolding Each drop_left
  left_sources [] h = tt
  left_sources (p ∷ ps) h = by_test Sources (is_spacing p.kind) (λ e. left_sources ps h.1) (λ e. h)

  keep_sources : (p : Pending) (ps : List Pending) → Source x i p → Sources ps → Sources (keep_last p ps)
  unfolding Each
  keep_sources p [] h g = by_test Sources (is_spacing p.kind) (λ e. tt) (λ e. (h, tt))
  keep_sources p (q ∷ qs) h g = (h, g)

  right_sources : (ps : List Pending) → Sources ps → Sources (drop_right ps)
  unfolding Each drop_right
  right_sources [] h = tt
  right_sources (p ∷ ps) h = keep_sources p (drop_right ps) h.0 (right_sources ps h.1)

  tidy_sources : (ps : List Pending) → Sources ps → Sources (tidy ps)
  tidy_sources ps h =
      right_sources (drop_left (cleaned_all ps)) (left_sources (cleaned_all ps) (cleaned_sources ps h))

  tidy-all : (xs : List (List Pending)) → Each Sources xs → Each Sources (tidy_all xs)
  unfolding Each tidy_all
  tidy-all [] h = tt
  tidy-all (a ∷ xs) h = (tidy_sources a h.0, tidy-all xs h.1)

  -- ---- a text with arguments in place

  module _ {n t : List ℕ} {fs : List Parameter} (k : Defined x (macro n fs t)) (set : List ℕ) where
    OptionFrom : Option (List Pending) → Type 0
    OptionFrom none = Unit {0}
    OptionFrom (some a) = Sources a

    fallback_sources : (f : List ℕ) (d : Option (List ℕ)) → In (parameter f d) fs → Sources (fallback set d)
    fallback_sources f none a = each_none (Source x i)
    fallback_sources f (some d) a = texts_each (Source x i) d set (tokens in_file d 0) (λ u b. of_default set u k a b)

    else_sources : (f : List ℕ) (d : Option (List ℕ)) (ps : List Pending) → In (parameter f d) fs → Sources ps → Sources (or_else set d ps)
    else_sources f d [] a h = fallback_sources f d a
    else_sources f d (p ∷ ps) a h = h

    value_sources : (gs : List Parameter) (xs : List (List Pending)) (w : List ℕ) → ((g : Parameter) → In g gs → In g fs) → Each Sources xs
        → OptionFrom (value set gs xs w)
    unfolding OptionFrom Each value
    value_sources [] xs w a h = tt
    value_sources (parameter f d ∷ gs) [] w a h =
        by_test OptionFrom (same w f) (λ e. fallback_sources f d (a (parameter f d) (first refl)))
        (λ e. value_sources gs [] w (λ g b. a g (later b)) h)
    value_sources (parameter f d ∷ gs) (y ∷ xs) w a h =
        by_test OptionFrom (same w f) (λ e. else_sources f d y (a (parameter f d) (first refl)) h.0)
        (λ e. value_sources gs xs w (λ g b. a g (later b)) h.1)

    instead_sources : (o : Option (List Pending)) (p : Pending) → OptionFrom o → Source x i p → Sources (instead o p)
    unfolding OptionFrom Each
    instead_sources none p h g = (g, tt)
    instead_sources (some a) p h g = h

    image_sources : (v : View) (p : Pending) (f : List ℕ → Option (List Pending)) → ((w : List ℕ) → OptionFrom (f w)) → Source x i p
        → Sources (image_of v p f)
    unfolding Each
    image_sources v p f h g = by_name Sources v (g, tt) (λ w e. instead_sources (f w) p (h w) g)

    place_sources : (f : List ℕ → Option (List Pending)) (ps : List Pending) → ((w : List ℕ) → OptionFrom (f w)) → Sources ps
        → Sources (in_place f ps)
    unfolding Each in_place
    place_sources f [] h g = tt
    place_sources f (p ∷ ps) h g =
        each_append (Source x i) (image_of (view p) p f) (in_place f ps) (image_sources (view p) p f h g.0) (place_sources f ps h g.1)

    defined_sources : (xs : List (List Pending)) → Each Sources xs → Sources (text_with set fs xs t)
    defined_sources xs h =
        place_sources (value set fs xs) (text_tokens t set (tokens in_text t 0)) (λ w. value_sources fs xs w (λ g a. a) h)
        (texts_each (Source x i) t set (tokens in_text t 0) (λ u a. of_text set u k a))

  -- a macro defined empty has no token
  empty_sources : (set : List ℕ) (xs : List (List Pending)) → Sources (text_with set [] xs [])
  unfolding in_place text_tokens
  empty_sources set xs = rw (tokens_out in_text [] 0 (omega arith)) (each_none (Source x i))

  -- ---- a usage's list, out of tokens of which R is known

  module _ (R : Pending → Type 0) (source : (p : Pending) → R p → is_barred (view p) ≡ false → Source x i p) where
    ArgsFrom : Args → Type 0
    ArgsFrom (arguments.bad n j) = Unit {0}
    ArgsFrom (args a xs r) = Sources a × Each Sources xs × Each R r

    push_from : (p : Pending) (a : Args) → Source x i p → ArgsFrom a → ArgsFrom (push p a)
    unfolding ArgsFrom Each
    push_from p (arguments.bad n j) h g = tt
    push_from p (args a xs r) h g = ((h, g.0), g.1, g.2)

    split_from : (a : Args) → ArgsFrom a → ArgsFrom (split a)
    unfolding ArgsFrom Each
    split_from (arguments.bad n j) h = tt
    split_from (args a xs r) h = (tt, (h.0, h.1), h.2)

    after_from : (m : Move) (p : Pending) (ps : List Pending) (go : List ℕ → Args) (due : List ℕ) → move_of (view p) due ≡ m → R p → Each R ps
        → ((d : List ℕ) → ArgsFrom (go d)) → ArgsFrom (after m p ps go)
    unfolding ArgsFrom Each
    after_from (keep due') p ps go due e h g f = push_from p (go due') (source p h (stays_free (view p) due (λ n i q. let z : ◌≡◌ {A = ℕ} 0 1 = cc in omega arith))) (f due')
    after_from arguments.part p ps go due e h g f = split_from (go []) (f [])
    after_from close p ps go due e h g f = (tt, tt, g)
    after_from (fail n j) p ps go due e h g f = tt

    collect_from : (ps : List Pending) (due : List ℕ) → Each R ps → ArgsFrom (collect ps due)
    unfolding ArgsFrom Each collect
    collect_from [] due h = tt
    collect_from (p ∷ ps) due h =
        after_from (move_of (view p) due) p ps (λ d. collect ps d) due refl h.0 h.1 (λ d. collect_from ps d h.1)

    seek-by : (v : View) (found more : Args) → ArgsFrom found → ArgsFrom more → ArgsFrom (seek_by v found more)
    unfolding ArgsFrom
    seek-by blanks found more f g = g
    seek-by (calls w) found more f g = tt
    seek-by (names w) found more f g = tt
    seek-by (opens c) found more f g = by_test ArgsFrom (eqb c 41) (λ e. f) (λ e. tt)
    seek-by (closes b) found more f g = tt
    seek-by commas found more f g = tt
    seek-by (bars n j) found more f g = tt
    seek-by plain found more f g = tt

    seek_from : (ps : List Pending) → Each R ps → ArgsFrom (seek ps)
    unfolding ArgsFrom Each seek
    seek_from [] h = tt
    seek_from (p ∷ ps) h = seek-by (view p) (collect ps []) (seek ps) (collect_from ps [] h.1) (seek_from ps h.1)

    ListedFrom : Listed → Type 0
    ListedFrom (replacing.barred n j) = Unit {0}
    ListedFrom (listed xs r) = Each Sources xs × Each R r

    accepted_from : (fs : List Parameter) (a : Args) → ArgsFrom a → ListedFrom (accepted fs a)
    unfolding ArgsFrom ListedFrom Each
    accepted_from fs (arguments.bad n j) h = tt
    accepted_from fs (args a xs r) h = by_test ListedFrom (enough fs (length (a ∷ xs))) (λ e. ((h.0, h.1), h.2)) (λ e. tt)

    list_from : (fs : List Parameter) (ps : List Pending) → Each R ps → ListedFrom (list_for fs ps)
    unfolding ListedFrom Each
    list_from [] ps h = (tt, h)
    list_from (f ∷ fs) ps h = accepted_from (f ∷ fs) (seek ps) (seek_from ps h)

    -- ---- a replacement

    unfoldable pub GotFrom : Got → Type 0
    GotFrom (refused n j) = Unit {0}
    GotFrom (got q r) = Sources q × Each R r

    with_from : (set : List ℕ) (fs : List Parameter) (t : List ℕ) (l : Listed) → ((xs : List (List Pending)) → Each Sources xs → Sources (text_with set fs xs t))
        → ListedFrom l → GotFrom (with_list set fs t l)
    unfolding ListedFrom GotFrom
    with_from set fs t (replacing.barred n j) f h = tt
    with_from set fs t (listed xs r) f h = (f (tidy_all xs) (tidy-all xs h.0), h.1)

    by_from : (m : Macro) (set : List ℕ) (ps : List Pending) → Known x m → Each R ps → GotFrom (replace_by m set ps)
    by_from m set ps (empty w) h = with_from set [] [] (list_for [] ps) (λ xs g. empty_sources set xs) (list_from [] ps h)
    by_from (macro n fs t) set ps (defined k) h = with_from set fs t (list_for fs ps) (defined_sources k set) (list_from fs ps h)

    at_from : (f : Result ℕ ℕ) (ms : List Macro) (set : List ℕ) (ps : List Pending) → AllKnown x ms → Each R ps → GotFrom (replace_at f ms set ps)
    unfolding GotFrom
    at_from (Err j) ms set ps k h = tt
    at_from (Ok j) ms set ps k h =
        by_test GotFrom (elem j set) (λ e. tt) (λ e. by_from (macro_at ms j) (insert_asc j set) ps (known_at x ms j k) h)

    pub replace_from : (ms : List Macro) (w set : List ℕ) (ps : List Pending) → AllKnown x ms → Each R ps → GotFrom (replace ms w set ps)
    unfolding replace
    replace_from ms w set ps k h = at_from (find w ms) ms set ps k h

  -- ---- the tokens of the file

  -- one that is not refused in a list is a source
  abbrev pub InFile : Pending → Type 0
  InFile p = is_barred (view p) ≡ false → Source x i p

  pub file_each : i < length x.table → (j : ℕ) → Each InFile (file_from (file_of x i) j)
  unfolding Each file_from file_tokens
  file_each h j =
      by_tokens (file_of x i) (λ (m : Mode) (p : ℕ) (ts : List Token). m ≡ in_file → Each InFile (file_tokens (file_of x i) ts))
      (λ m p l e. tt) (λ m p l q e. tt)
      (λ m p l q r e. let u : token_at m (file_of x i) p ≡ token_in x i p = ap (λ (z : Mode). token_at z (file_of x i) p) e in
      let k : InFile (file_token (file_of x i) (token_in x i p)) =
      λ b. of_list p (record { file_in = h; inside = l; free = free_bar (file_token (file_of x i) (token_in x i p)) b }) b in (
        subst (λ (t : Token). InFile (file_token (file_of x i) t)) (sym u) k,
        r (rw e (file_mode (token_in x i p))),
      )) in_file j refl
