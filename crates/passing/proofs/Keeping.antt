-- What a replacement puts in: its usages are good again, and what holds of every pending token holds of its tokens.
-- Assumes nothing.
use mathlib.Core.Path.{◌≡◌, refl, sym, ap, ◌∙◌, subst}
use mathlib.Core.Bool.{Bool, true, false, cond, ◌&&◌, not}
use mathlib.Core.Option.{Option, none, some}
use mathlib.Core.List.{List, [], ◌∷◌, ◌++◌}
use Prim.Native.Nat.{ℕ}
use lib.Dec.{eqb}
use borrow.Author.Tests.{not-true}
use Rattle.lex.specs.Tokens.{in_file, tokens}
use Rattle.lex.specs.declared.Token.{Token}
use Rattle.lex.proofs.Tests.{and_left, and_right}
use Rattle.definition.specs.Definitions.{Parameter, parameter, Macro}
use Rattle.pending.specs.Pending.{Pending, is_spacing, text_token, text_tokens, View, is_call, view}
use Rattle.arguments.specs.Arguments.{args}
use Rattle.arguments.proofs.Collecting.{part_due}
use Rattle.replace.specs.Tidying.{cleaned, before_newline, is_backslash, cleaned_all, drop_left, keep_last, drop_right, tidy, tidy_all}
use Rattle.replace.specs.Replacing.{fallback, image_of, in_place}
use Rattle.passing.specs.Chains.{no_usage}
use Rattle.passing.proofs.Lists.{views, Shut, done, more, Listed, Collected, ended, pushed, cut, listed_inside, close_none}
use Rattle.passing.proofs.Reading.{read, Sought, there, here}
use Rattle.passing.proofs.Trimming.{view_cleaned, keep_unbarred, shut_cleaned, shut_left, shut_right, listed_cleaned, listed_right}
use Rattle.passing.proofs.Good.{Fine, fine_nil, fine_call, fine_plain, good_map, fine_tail, fine_head, fine_append}
use Rattle.passing.proofs.Placing.{views_join, Image, itself, valued, image-of, listed_placed, All, all_nil, all_cons, Defaults, default_nil, default_cons}

-- ---- no usage

plain_first : (p : Pending) (ps : List Pending) → no_usage (p ∷ ps) ≡ true → is_call (view p) ≡ false
unfolding no_usage
plain_first p ps h = not-true (is_call (view p)) (and_left (not (is_call (view p))) (no_usage ps) h)

plain_rest : (p : Pending) (ps : List Pending) → no_usage (p ∷ ps) ≡ true → no_usage ps ≡ true
unfolding no_usage
plain_rest p ps h = and_right (not (is_call (view p))) (no_usage ps) h

pub plain_fine : {ms : List Macro} (ps : List Pending) → no_usage ps ≡ true → Fine ms (views ps)
plain_fine [] h = fine_nil
plain_fine (p ∷ ps) h = fine_plain (plain_first p ps h) (plain_fine ps (plain_rest p ps h))

-- ---- tidying

pub fine_left : {ms : List Macro} (ps : List Pending) → Fine ms (views ps) → Fine ms (views (drop_left ps))
unfolding drop_left
fine_left [] f = f
fine_left {ms} (p ∷ ps) f = go (is_spacing p.kind) (fine_left ps (fine_tail f))
  where
    go : (b : Bool) → Fine ms (views (drop_left ps)) → Fine ms (views (cond b (drop_left ps) (p ∷ ps)))
    go true h = h
    go false h = f

pub fine_right : {ms : List Macro} (ps : List Pending) → Fine ms (views ps) → Fine ms (views (drop_right ps))
unfolding drop_right
fine_right [] f = f
fine_right {ms} (p ∷ ps) f = go (drop_right ps) (fine_head (λ n l. listed_right ps l) f (fine_right ps (fine_tail f)))
  where
    one : (b : Bool) → Fine ms (view p ∷ []) → Fine ms (views (cond b [] (p ∷ [])))
    one true h = fine_nil
    one false h = h

    go : (qs : List Pending) → Fine ms (view p ∷ views qs) → Fine ms (views (keep_last p qs))
    go [] h = one (is_spacing p.kind) h
    go (q ∷ qs) h = h

clean_head : {ms : List Macro} (p : Pending) {vs us : List View} → eqb p.bar 0 ≡ true → ((n : ℕ) → Listed vs n → Listed us n)
    → Fine ms (view p ∷ vs) → Fine ms us → Fine ms (view (cleaned p) ∷ us)
clean_head p u k (fine_call e g f) h = fine_call (view_cleaned p u ∙ e) (good_map k g) h
clean_head p u k (fine_plain e f) h = fine_plain (ap is_call (view_cleaned p u) ∙ e) h

pub fine_cleaned : {ms : List Macro} (ps : List Pending) {due : List ℕ} → Shut (views ps) due → Fine ms (views ps) → Fine ms (views (cleaned_all ps))
unfolding cleaned_all
fine_cleaned [] s f = f
fine_cleaned {ms} (p ∷ ps) {due} (more d h k) f = go (is_backslash p && before_newline ps) (fine_cleaned ps k (fine_tail f))
  where
    go : (b : Bool) → Fine ms (views (cleaned_all ps)) → Fine ms (views (cond b (cleaned_all ps) (cleaned p ∷ cleaned_all ps)))
    go true g = g
    go false g = clean_head p (keep_unbarred p due d h) (λ n l. listed_cleaned ps l) f g

-- ---- a property of each pending token

-- cleaning a token that nothing bars keeps it
abbrev pub Lasting : (Pending → Type 0) → Type 0
Lasting P = (p : Pending) → eqb p.bar 0 ≡ true → P p → P (cleaned p)

module _ {P : Pending → Type 0} where
  pub all_append : {a b : List Pending} → All P a → All P b → All P (a ++ b)
  all_append all_nil h = h
  all_append (all_cons x k) h = all_cons x (all_append k h)

  all_left : (ps : List Pending) → All P ps → All P (drop_left ps)
  unfolding drop_left
  all_left [] h = h
  all_left (p ∷ ps) (all_cons x h) = go (is_spacing p.kind) (all_left ps h)
    where
      go : (b : Bool) → All P (drop_left ps) → All P (cond b (drop_left ps) (p ∷ ps))
      go true k = k
      go false k = all_cons x h

  all_right : (ps : List Pending) → All P ps → All P (drop_right ps)
  unfolding drop_right
  all_right [] h = h
  all_right (p ∷ ps) (all_cons x h) = go (drop_right ps) (all_right ps h)
    where
      one : (b : Bool) → All P (cond b [] (p ∷ []))
      one true = all_nil
      one false = all_cons x all_nil

      go : (qs : List Pending) → All P qs → All P (keep_last p qs)
      go [] k = one (is_spacing p.kind)
      go (q ∷ qs) k = all_cons x k

  all_cleaned : Lasting P → (ps : List Pending) {due : List ℕ} → Shut (views ps) due → All P ps → All P (cleaned_all ps)
  unfolding cleaned_all
  all_cleaned c [] s h = h
  all_cleaned c (p ∷ ps) {due} (more d e s) (all_cons x h) = go (is_backslash p && before_newline ps) (all_cleaned c ps s h)
    where
      go : (b : Bool) → All P (cleaned_all ps) → All P (cond b (cleaned_all ps) (cleaned p ∷ cleaned_all ps))
      go true k = k
      go false k = all_cons (c p (keep_unbarred p due d e) x) k

-- a value: brackets match, no comma outside them, no quote mark; its usages good within it
pub record Val (ms : List Macro) (P : Pending → Type 0) (due : List ℕ) (a : List Pending) : Type 0 where
  pub shuts : Shut (views a) due
  pub fine : Fine ms (views a)
  pub each : All P a

pub record Taken (ms : List Macro) (P : Pending → Type 0) (due : List ℕ) (a : List Pending) (xs : List (List Pending)) (r : List Pending) : Type 0 where
  pub first : Val ms P due a
  pub others : All (λ x. Val ms P [] x) xs
  pub rest_fine : Fine ms (views r)
  pub rest_each : All P r

-- every default, read with any set: shut, and without usages
pub data Sound : List Parameter → Type 0 where
  sound_nil : Sound []
  sound_cons : {f : List ℕ} {d : Option (List ℕ)} {fs : List Parameter} → ((set : List ℕ) → Shut (views (fallback set d)) [])
      → ((set : List ℕ) → no_usage (fallback set d) ≡ true) → Sound fs → Sound (parameter f d ∷ fs)

module _ (ms : List Macro) (P : Pending → Type 0) where
  pub empty : (due : List ℕ) → due ≡ [] → Val ms P due []
  empty due e = record { shuts = subst (λ (z : List ℕ). Shut [] z) (sym e) done; fine = fine_nil; each = all_nil }

  -- ---- what is taken out of a list

  pub taken_of : {ps : List Pending} {due : List ℕ} {a : List Pending} {xs : List (List Pending)} {r : List Pending}
      → Collected ps due a xs r → Fine ms (views ps) → All P ps → Taken ms P due a xs r
  taken_of (ended {p = p} {due = due} h) f (all_cons x k) =
      record { first = empty due (close_none (view p) due h); others = all_nil; rest_fine = fine_tail f; rest_each = k }
  taken_of (pushed {p = p} {ps = ps} d h c) f (all_cons x k) =
      let t = taken_of c (fine_tail f) k in
      record {
        first = record {
          shuts = more d h t.first.shuts;
          fine = fine_head (λ n l. listed_inside ps c l) f t.first.fine;
          each = all_cons x t.first.each;
        };
        others = t.others;
        rest_fine = t.rest_fine;
        rest_each = t.rest_each;
      }
  taken_of (cut {p = p} {due = due} h c) f (all_cons x k) =
      let t = taken_of c (fine_tail f) k in
      record { first = empty due (part_due (view p) due h); others = all_cons t.first t.others; rest_fine = t.rest_fine; rest_each = t.rest_each }

  pub taken_sought : {ps : List Pending} {a : List Pending} {xs : List (List Pending)} {r : List Pending}
      → Sought ps (args a xs r) → Fine ms (views ps) → All P ps → Taken ms P [] a xs r
  taken_sought (there e s) f (all_cons x k) = taken_sought s (fine_tail f) k
  taken_sought (here e (read c)) f (all_cons x k) = taken_of c (fine_tail f) k

  -- ---- arguments as they are put in place

  val_tidy : Lasting P → (a : List Pending) → Val ms P [] a → Val ms P [] (tidy a)
  val_tidy c a v =
      let a' = cleaned_all a in
      record {
        shuts = shut_right (drop_left a') (shut_left a' (shut_cleaned a v.shuts));
        fine = fine_right (drop_left a') (fine_left a' (fine_cleaned a v.shuts v.fine));
        each = all_right (drop_left a') (all_left a' (all_cleaned c a v.shuts v.each));
      }

  pub vals_tidy : Lasting P → {xs : List (List Pending)} → All (λ x. Val ms P [] x) xs → All (λ x. Val ms P [] x) (tidy_all xs)
  unfolding tidy_all
  vals_tidy c all_nil = all_nil
  vals_tidy c (all_cons {a = a} v e) = all_cons (val_tidy c a v) (vals_tidy c e)

  -- ---- defaults

  -- what holds of each token with the set that is no usage
  module _ (set : List ℕ) (k : (p : Pending) → p.own ≡ set → is_call (view p) ≡ false → P p) where
    plain_each : (s : List ℕ) (ts : List Token) → no_usage (text_tokens s set ts) ≡ true → All P (text_tokens s set ts)
    unfolding text_tokens
    plain_each s [] h = all_nil
    plain_each s (t ∷ ts) h =
        let p = text_token s set t in
        all_cons (k p refl (plain_first p (text_tokens s set ts) h)) (plain_each s ts (plain_rest p (text_tokens s set ts) h))

    default_each : (d : Option (List ℕ)) → no_usage (fallback set d) ≡ true → All P (fallback set d)
    default_each none h = all_nil
    default_each (some d) h = plain_each d (tokens in_file d 0) h

    pub defaults_of : {fs : List Parameter} → Sound fs → Defaults (λ x. Val ms P [] x) set fs
    defaults_of sound_nil = default_nil
    defaults_of (sound_cons {d = d} s q r) =
        default_cons (record { shuts = s set; fine = plain_fine (fallback set d) (q set); each = default_each d (q set) }) (defaults_of r)

  -- ---- the text with the values in place

  module _ (f : List ℕ → Option (List Pending)) (ok : (w : List ℕ) (a : List Pending) → f w ≡ some a → Val ms P [] a) where
    fine_image : (p : Pending) {vs us : List View} (q : List Pending) → Image f p q → ((n : ℕ) → Listed vs n → Listed us n)
        → Fine ms (view p ∷ vs) → Fine ms us → Fine ms (views q ++ us)
    fine_image p q itself k h g = fine_head k h g
    fine_image p q (valued w e m u) k h g = fine_append (ok w q e).fine g

    pub fine_placed : (ps rest : List Pending) → Fine ms (views ps) → Fine ms (views rest) → Fine ms (views (in_place f ps ++ rest))
    unfolding in_place
    fine_placed [] rest h g = g
    fine_placed (p ∷ ps) rest h g =
        subst (Fine ms) (sym (views_join (image_of (view p) p f) (in_place f ps) rest))
        (fine_image p (image_of (view p) p f) (image-of f p) (λ n l. listed_placed f (λ w a e. (ok w a e).shuts) rest ps l) h (fine_placed ps rest (fine_tail h) g))

    each_image : (p : Pending) (q : List Pending) → Image f p q → P p → All P q
    each_image p q itself h = all_cons h all_nil
    each_image p q (valued w e m u) h = (ok w q e).each

    pub each_placed : (ps : List Pending) → All P ps → All P (in_place f ps)
    unfolding in_place
    each_placed [] h = all_nil
    each_placed (p ∷ ps) (all_cons x h) = all_append (each_image p (image_of (view p) p f) (image-of f p) x) (each_placed ps h)
