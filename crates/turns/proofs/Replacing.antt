-- One replacement of a usage in a file: a refusal has one of 2 to 20, with a place in the file; what is put in place has its
-- places there too, and what follows the list keeps what holds of its places.
-- Assumes nothing.
use Prim.Native.Nat.{ℕ, ◌≤◌}
use mathlib.Core.Bool.{◌&&◌, ◌||◌}
use mathlib.Core.Option.{Option, none, some}
use mathlib.Core.List.{List, [], ◌∷◌}
use mathlib.Core.Path.{◌≡◌, refl}
use native.Mathlib.Omega.{arith}
use lib.Dec.{eqb}
use lib.ListN.{length}
use Rattle.text.specs.Bytes.{same}
use Rattle.lex.specs.declared.Mode.{Mode}
use Rattle.lex.specs.declared.Token.{Token}
use Rattle.lex.specs.Tokens.{in_file, in_text, String, Name, Escaped, Quote, Grave, Byte, token_at, tokens}
use Rattle.lex.proofs.Tests.{by_test}
use Rattle.lex.proofs.Progress.{Inside, token-at}
use Rattle.lex.proofs.Barring.{Barring, numbered_none, token_bars}
use Rattle.lex.proofs.Listing.{by_tokens}
use Rattle.names.specs.Names.{is_directive, bars_text}
use Rattle.definition.specs.Definitions.{Parameter, parameter, Macro, macro}
use Rattle.store.specs.Stores.{macro_at, find}
use Rattle.std.proofs.Common.{Result, Ok, Err}
use Rattle.macros.proofs.Each.{Each, each_append}
use Rattle.sets.specs.Sets.{elem, insert_asc}
use Rattle.pending.specs.Pending.{Pending, file_tokens, file_from, text_tokens, View, blanks, calls, names, opens, closes, commas, bars, plain, byte_view, is_spacing, is_comment, is_blank, kind_view, view}
use Rattle.pending.proofs.Viewing.{by_name}
use Rattle.arguments.specs.Arguments.{Move, keep, closing, comma, move_of, Args, args, push, split, after, collect, seek_by, seek}
use Rattle.arguments.specs.Arguments as arguments
use Rattle.replace.specs.Tidying.{cleaned, before_newline, is_backslash, cleaned_all, drop_left, keep_last, drop_right, tidy, tidy_all}
use Rattle.replace.specs.Replacing.{fallback, or_else, value, instead, image_of, in_place, Got, refused, got, text_with, enough, Listed, listed, accepted, list_for, with_list, replace_by, replace_at, replace}
use Rattle.replace.specs.Replacing as replacing
use Rattle.expand.specs.Expanding.{first}
use Rattle.turns.proofs.Inside.{token_in}

-- one of 2 to 20, at a place in the text s or at its end
pub record RefusedIn (s : List ℕ) (n p : ℕ) : Type 0 where
  pub low : 2 ≤ n
  pub high : n ≤ 20
  pub place_in : p ≤ length s

-- a place in the text s or its end
abbrev pub Within : List ℕ → ℕ → Type 0
Within s p = p ≤ length s

-- ---- pending tokens: barred by 2 to 6 or by nothing, and R holds of their places

module _ (R : ℕ → Type 0) where
  pub record PendingIn (p : Pending) : Type 0 where
    pub bars_in : Barring p.bar
    pub at_in : R p.at

  abbrev pub AllIn : List Pending → Type 0
  AllIn ps = Each PendingIn ps

-- refused, or what is put in place and what follows
unfoldable pub GotIn : List ℕ → (ℕ → Type 0) → Got → Type 0
GotIn s R (refused n p) = RefusedIn s n p
GotIn s R (got q r) = AllIn (Within s) q × AllIn R r

-- the file's from i on
from_in : (s : List ℕ) (i : ℕ) → AllIn (Inside s i) (file_from s i)
unfolding Each file_from file_tokens
from_in s i =
    by_tokens s (λ (m : Mode) (j : ℕ) (ts : List Token). i ≤ j → AllIn (Inside s i) (file_tokens s ts)) (λ m j l h. tt) (λ m j l q h. tt)
    (λ m j l q r h. let a : (token_at m s j).at ≡ j = token-at m s j in
    (record { bars_in = token_bars s j m; at_in = record { past = omega arith; within = omega arith } }, r (token_in m s i j h l).past))
    in_file i (omega arith)

module _ (s : List ℕ) where
  -- what is put in place
  abbrev TokenPut : Pending → Type 0
  TokenPut p = PendingIn (Within s) p

  abbrev PutIn : List Pending → Type 0
  PutIn ps = AllIn (Within s) ps

  ListsIn : List (List Pending) → Type 0
  ListsIn [] = Unit {0}
  ListsIn (a ∷ xs) = PutIn a × ListsIn xs

  ValueIn : Option (List Pending) → Type 0
  ValueIn none = Unit {0}
  ValueIn (some a) = PutIn a

  one_in : (p : Pending) → TokenPut p → PutIn (p ∷ [])
  unfolding Each
  one_in p h = (h, tt)

  -- barred by nothing, from no place
  free_in : (p : Pending) → p.bar ≡ 0 → p.at ≡ 0 → TokenPut p
  free_in p b a = record { bars_in = rw b (numbered_none 6); at_in = omega arith }

  text_in : (t set : List ℕ) (ts : List Token) → PutIn (text_tokens t set ts)
  unfolding Each text_tokens
  text_in t set [] = tt
  text_in t set (k ∷ ts) = (free_in _ refl refl, text_in t set ts)

  -- ---- arguments as they are put in place

  cleaned_in : (p : Pending) → TokenPut (cleaned p)
  cleaned_in p =
      by_test TokenPut (is_comment p.kind) (λ e. free_in _ refl refl)
      (λ e. by_test TokenPut (eqb p.kind String) (λ e. free_in _ refl refl) (λ e. free_in _ refl refl))

  cleaned-all : (ps : List Pending) → PutIn (cleaned_all ps)
  unfolding Each cleaned_all
  cleaned-all [] = tt
  cleaned-all (p ∷ ps) =
      by_test PutIn (is_backslash p && before_newline ps) (λ e. cleaned-all ps) (λ e. (cleaned_in p, cleaned-all ps))

  left_in : (ps : List Pending) → PutIn ps → PutIn (drop_left ps)
  unfolding Each drop_left
  left_in [] h = tt
  left_in (p ∷ ps) h = by_test PutIn (is_spacing p.kind) (λ e. left_in ps h.1) (λ e. h)

  last_in : (p : Pending) (ps : List Pending) → TokenPut p → PutIn ps → PutIn (keep_last p ps)
  unfolding Each
  last_in p [] h g = by_test PutIn (is_spacing p.kind) (λ e. tt) (λ e. (h, tt))
  last_in p (q ∷ qs) h g = (h, g)

  right_in : (ps : List Pending) → PutIn ps → PutIn (drop_right ps)
  unfolding Each drop_right
  right_in [] h = tt
  right_in (p ∷ ps) h = last_in p (drop_right ps) h.0 (right_in ps h.1)

  tidy_in : (ps : List Pending) → PutIn (tidy ps)
  tidy_in ps = right_in (drop_left (cleaned_all ps)) (left_in (cleaned_all ps) (cleaned-all ps))

  tidy-all : (xs : List (List Pending)) → ListsIn (tidy_all xs)
  unfolding ListsIn tidy_all
  tidy-all [] = tt
  tidy-all (a ∷ xs) = (tidy_in a, tidy-all xs)

  -- ---- a macro's text with arguments in place

  fallback_in : (set : List ℕ) (d : Option (List ℕ)) → PutIn (fallback set d)
  unfolding Each
  fallback_in set none = tt
  fallback_in set (some d) = text_in d set (tokens in_file d 0)

  else_in : (set : List ℕ) (d : Option (List ℕ)) (a : List Pending) → PutIn a → PutIn (or_else set d a)
  else_in set d [] h = fallback_in set d
  else_in set d (p ∷ ps) h = h

  value_in : (set : List ℕ) (fs : List Parameter) (xs : List (List Pending)) (w : List ℕ) → ListsIn xs → ValueIn (value set fs xs w)
  unfolding ListsIn ValueIn value
  value_in set [] xs w h = tt
  value_in set (parameter f d ∷ fs) [] w h = by_test ValueIn (same w f) (λ e. fallback_in set d) (λ e. value_in set fs [] w h)
  value_in set (parameter f d ∷ fs) (a ∷ xs) w h =
      by_test ValueIn (same w f) (λ e. else_in set d a h.0) (λ e. value_in set fs xs w h.1)

  instead_in : (o : Option (List Pending)) (p : Pending) → ValueIn o → TokenPut p → PutIn (instead o p)
  unfolding ValueIn
  instead_in none p h g = one_in p g
  instead_in (some a) p h g = h

  module _ (f : List ℕ → Option (List Pending)) (h : (w : List ℕ) → ValueIn (f w)) where
    image_in : (v : View) (p : Pending) → TokenPut p → PutIn (image_of v p f)
    image_in v p g = by_name PutIn v (one_in p g) (λ w e. instead_in (f w) p (h w) g)

    place_in_all : (ps : List Pending) → PutIn ps → PutIn (in_place f ps)
    unfolding Each in_place
    place_in_all [] g = tt
    place_in_all (p ∷ ps) g =
        each_append (PendingIn (Within s)) (image_of (view p) p f) (in_place f ps) (image_in (view p) p g.0) (place_in_all ps g.1)

  with_in : (set : List ℕ) (fs : List Parameter) (xs : List (List Pending)) (t : List ℕ) → PutIn (text_with set fs (tidy_all xs) t)
  with_in set fs xs t =
      place_in_all (value set fs (tidy_all xs)) (λ w. value_in set fs (tidy_all xs) w (tidy-all xs)) (text_tokens t set (tokens in_text t 0))
      (text_in t set (tokens in_text t 0))

  -- ---- lists

  refused_at : (n : ℕ) → 2 ≤ n → n ≤ 20 → RefusedIn s n 0
  refused_at n a b = record { low = a; high = b; place_in = omega arith }

  no_list : RefusedIn s 14 0
  no_list = refused_at 14 (omega arith) (omega arith)

  ViewIn : View → Type 0
  ViewIn blanks = Unit {0}
  ViewIn (calls w) = Unit {0}
  ViewIn (names w) = Unit {0}
  ViewIn (opens c) = Unit {0}
  ViewIn (closes b) = Unit {0}
  ViewIn commas = Unit {0}
  ViewIn (bars n i) = RefusedIn s n i
  ViewIn plain = Unit {0}

  byte_in : (b : ℕ) → ViewIn (byte_view b)
  unfolding ViewIn
  byte_in b =
      by_test ViewIn (eqb b 40) (λ e. tt)
      (λ e. by_test ViewIn (eqb b 91) (λ e. tt)
      (λ e. by_test ViewIn (eqb b 123) (λ e. tt)
      (λ e. by_test ViewIn (eqb b 41 || (eqb b 93 || eqb b 125)) (λ e. tt)
      (λ e. by_test ViewIn (eqb b 44) (λ e. tt) (λ e. tt)))))

  kind_in : (k b : ℕ) (w : List ℕ) → ViewIn (kind_view k b w)
  unfolding ViewIn kind_view
  kind_in k b w =
      by_test ViewIn (is_blank k) (λ e. tt)
      (λ e. by_test ViewIn (eqb k Name || eqb k Escaped) (λ e. tt)
      (λ e. by_test ViewIn (eqb k Quote) (λ e. no_list)
      (λ e. by_test ViewIn (eqb k Grave)
      (λ e. by_test ViewIn (bars_text w) (λ e. no_list) (λ e. by_test ViewIn (is_directive w) (λ e. tt) (λ e. tt)))
      (λ e. by_test ViewIn (eqb k Byte) (λ e. byte_in b) (λ e. tt)))))

  module _ (R : ℕ → Type 0) (inside : (p : ℕ) → R p → p ≤ length s) where
    view_in : (p : Pending) → PendingIn R p → ViewIn (view p)
    unfolding ViewIn view
    view_in p h =
        by_test ViewIn (eqb p.bar 0) (λ e. kind_in _ _ _)
        (λ e. record { low = h.bars_in.least e; high = omega (arith, h.bars_in.most); place_in = inside p.at h.at_in })

    ArgsIn : Args → Type 0
    ArgsIn (arguments.bad n p) = RefusedIn s n p
    ArgsIn (args a xs r) = AllIn R r

    push_in : (p : Pending) (a : Args) → ArgsIn a → ArgsIn (push p a)
    unfolding ArgsIn
    push_in p (arguments.bad n k) h = h
    push_in p (args a xs r) h = h

    split_in : (a : Args) → ArgsIn a → ArgsIn (split a)
    unfolding ArgsIn
    split_in (arguments.bad n k) h = h
    split_in (args a xs r) h = h

    module _ (p : Pending) (ps : List Pending) (go : List ℕ → Args) (a : AllIn R ps) (g : (d : List ℕ) → ArgsIn (go d)) where
      abbrev MoveIn : Move → Type 0
      MoveIn m = ArgsIn (after m p ps go)

      keep_in : (due : List ℕ) → MoveIn (keep due)
      keep_in due = push_in p (go due) (g due)

      closing_in : (b : ℕ) (due : List ℕ) → MoveIn (closing b due)
      unfolding ArgsIn
      closing_in b [] = by_test MoveIn (eqb b 41) (λ e. a) (λ e. no_list)
      closing_in b (c ∷ due) = by_test MoveIn (eqb b c) (λ e. keep_in due) (λ e. no_list)

      comma_in : (due : List ℕ) → MoveIn (comma due)
      comma_in [] = split_in (go []) (g [])
      comma_in (c ∷ due) = keep_in (c ∷ due)

      move_in : (v : View) (due : List ℕ) → ViewIn v → MoveIn (move_of v due)
      unfolding ViewIn ArgsIn
      move_in blanks due h = keep_in due
      move_in (calls w) due h = keep_in due
      move_in (names w) due h = keep_in due
      move_in (opens c) due h = keep_in (c ∷ due)
      move_in (closes b) due h = closing_in b due
      move_in commas due h = comma_in due
      move_in (bars n i) due h = h
      move_in plain due h = keep_in due

    collect_in : (ps : List Pending) (due : List ℕ) → AllIn R ps → ArgsIn (collect ps due)
    unfolding Each ArgsIn collect
    collect_in [] due a = no_list
    collect_in (p ∷ ps) due a =
        move_in p ps (λ d. collect ps d) a.1 (λ d. collect_in ps d a.1) (view p) due (view_in p a.0)

    seek-by : (v : View) (found more : Args) → ViewIn v → ArgsIn found → ArgsIn more → ArgsIn (seek_by v found more)
    unfolding ViewIn ArgsIn
    seek-by blanks found more h f g = g
    seek-by (calls w) found more h f g = no_list
    seek-by (names w) found more h f g = no_list
    seek-by (opens c) found more h f g = by_test ArgsIn (eqb c 41) (λ e. f) (λ e. no_list)
    seek-by (closes b) found more h f g = no_list
    seek-by commas found more h f g = no_list
    seek-by (bars n k) found more h f g = h
    seek-by plain found more h f g = no_list

    seek_in : (ps : List Pending) → AllIn R ps → ArgsIn (seek ps)
    unfolding Each ArgsIn seek
    seek_in [] a = no_list
    seek_in (p ∷ ps) a =
        seek-by (view p) (collect ps []) (seek ps) (view_in p a.0) (collect_in ps [] a.1) (seek_in ps a.1)

    ListedIn : Listed → Type 0
    ListedIn (replacing.barred n p) = RefusedIn s n p
    ListedIn (listed xs r) = AllIn R r

    accepted_in : (fs : List Parameter) (a : Args) → ArgsIn a → ListedIn (accepted fs a)
    unfolding ArgsIn ListedIn
    accepted_in fs (arguments.bad n p) h = h
    accepted_in fs (args a xs r) h =
        by_test ListedIn (enough fs (length (a ∷ xs))) (λ e. h) (λ e. refused_at 15 (omega arith) (omega arith))

    list_in : (fs : List Parameter) (ps : List Pending) → AllIn R ps → ListedIn (list_for fs ps)
    unfolding ListedIn
    list_in [] ps a = a
    list_in (f ∷ fs) ps a = accepted_in (f ∷ fs) (seek ps) (seek_in ps a)

    -- ---- one replacement

    abbrev Gets : Got → Type 0
    Gets y = GotIn s R y

    with-list : (set : List ℕ) (fs : List Parameter) (t : List ℕ) (l : Listed) → ListedIn l → Gets (with_list set fs t l)
    unfolding ListedIn GotIn
    with-list set fs t (replacing.barred n p) h = h
    with-list set fs t (listed xs r) h = (with_in set fs xs t, h)

    replace-by : (m : Macro) (set : List ℕ) (ps : List Pending) → AllIn R ps → Gets (replace_by m set ps)
    replace-by (macro n fs t) set ps a = with-list set fs t (list_for fs ps) (list_in fs ps a)

    replace-at : (o : Result ℕ ℕ) (ms : List Macro) (set : List ℕ) (ps : List Pending) → AllIn R ps → Gets (replace_at o ms set ps)
    unfolding GotIn
    replace-at (Err k) ms set ps a = refused_at 13 (omega arith) (omega arith)
    replace-at (Ok k) ms set ps a =
        by_test Gets (elem k set) (λ e. refused_at 16 (omega arith) (omega arith))
        (λ e. replace-by (macro_at ms k) (insert_asc k set) ps a)

    pub replace_in : (ms : List Macro) (w set : List ℕ) (ps : List Pending) → AllIn R ps → Gets (replace ms w set ps)
    unfolding replace
    replace_in ms w set ps a = replace-at (find w ms) ms set ps a

  -- .. by what stands in the file, behind a word that ends at i
  pub first_in : (ms : List Macro) (w : List ℕ) (i : ℕ) → GotIn s (Inside s i) (first ms w s i)
  unfolding first
  first_in ms w i = replace_in (Inside s i) (λ p h. h.within) ms w [] (file_from s i) (from_in s i)
