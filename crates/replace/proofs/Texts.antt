-- The text of a macro with its arguments in place, one token after the other.
-- Assumes nothing.
use Prim.Native.Nat.{ℕ, zero, suc, ◌+◌, ◌-◌, ◌<◌, ◌≤◌}
use mathlib.Core.Bool.{Bool, true, false, cond, ◌||◌}
use mathlib.Core.Option.{Option, none, some}
use mathlib.Core.List.{List, [], ◌∷◌, ◌++◌, append_assoc, append-nil}
use mathlib.Core.Path.{◌≡◌, refl, sym, ap, subst, ◌∙◌}
use native.Mathlib.Nat.{not-suc-le-zero}
use native.Mathlib.Omega.{arith}
use lib.Dec.{eqb}
use lib.ListN.{length, take, drop, get_or}
use borrow.Author.Tests.{eqb-true}
use Rattle.text.specs.Bytes.{same, part}
use Rattle.lex.specs.Tokens.{Name, Escaped, Quote, Grave, Byte, in_text, between, marks_after, name_of, token_at, tokens}
use Rattle.lex.specs.declared.Mode.{Mode}
use Rattle.lex.specs.declared.Token.{Token}
use Rattle.lex.proofs.Tests.{by_test, true_false}
use Rattle.lex.proofs.Listing.{tokens_out}
use Rattle.lex.proofs.Progress.{token_sound}
use Rattle.names.specs.Names.{is_directive, bars_text}
use Rattle.storing.proofs.Reading.{text_next as tokens-text}
use Rattle.definition.specs.Definitions.{Parameter, parameter}
use Rattle.sets.specs.Sets.{members}
use Rattle.sets.specs.declared.MacroSet.{MacroSet}
use Rattle.pending.specs.declared.Pend.{Pend}
use Rattle.std.proofs.Common.{Option as Opt}
use Rattle.pending.specs.Pending.{Pending, View, names, is_blank, kind_view, view, text_token, text_tokens}
use Rattle.pending.specs.References.{pending_by}
use Rattle.pending.specs.Adding.{Adds, AddsBy}
use Rattle.pending.proofs.Adding.{adds_then, adds_full_behind}
use Rattle.replace.specs.declared.Which.{Which}
use Rattle.replace.specs.Replacing.{or_else, value, instead, image_of, image_in, in_place, text_with}
use Rattle.replace.specs.Placing.{FormalsAt, formal_index, WhichIs, stored_ref}
use Rattle.replace.proofs.Values.{stored_token}

-- ---- what takes the place of a name

value_step : (set f : List ℕ) (d : Option (List ℕ)) (fs : List Parameter) (xs : List (List Pending)) (w : List ℕ)
    → value set (parameter f d ∷ fs) xs w ≡ cond (same w f) (some (or_else set d (get_or xs 0 []))) (value set fs (drop 1 xs) w)
unfolding value
value_step set f d fs [] w = refl
value_step set f d fs (a ∷ xs) w = refl

none_by : (t : Bool) (v r : Option (List Pending)) (i n : ℕ) → cond t 0 (suc i) ≡ suc n → (i ≡ n → r ≡ none) → cond t v r ≡ none
none_by true v r i n h g = absurd (omega arith)
none_by false v r i n h g = g (omega arith)

-- nothing, if it is no formal's
pub value_none : (set : List ℕ) (fs : List Parameter) (xs : List (List Pending)) (w : List ℕ) → formal_index w fs ≡ length fs → value set fs xs w ≡ none
unfolding value formal_index
value_none set [] xs w h = refl
value_none set (parameter f d ∷ fs) xs w h =
    value_step set f d fs xs w
    ∙ none_by (same w f) (some (or_else set d (get_or xs 0 []))) (value set fs (drop 1 xs) w) (formal_index w fs) (length fs) h (λ e. value_none set fs (drop 1 xs) w e)

there_by : (set w : List ℕ) (g : List ℕ) (e : Option (List ℕ)) (fs : List Parameter) (xs : List (List Pending)) (t : Bool) (k : ℕ) (f : List ℕ) (d : Option (List ℕ)) (rest : List Parameter)
    → k ≡ cond t 0 (suc (formal_index w fs)) → k < suc (length fs) → drop k (parameter g e ∷ fs) ≡ parameter f d ∷ rest
    → ((j : ℕ) → j ≡ formal_index w fs → j < length fs → drop j fs ≡ parameter f d ∷ rest → value set fs (drop 1 xs) w ≡ some (or_else set d (get_or (drop 1 xs) j [])))
    → cond t (some (or_else set e (get_or xs 0 []))) (value set fs (drop 1 xs) w) ≡ some (or_else set d (get_or xs k []))
there_by set w g e fs xs true zero f d rest p l q h = let z : e ≡ d = cc in rw z
there_by set w g e fs xs true (suc k) f d rest p l q h = absurd (omega arith)
there_by set w g e fs xs false zero f d rest p l q h = absurd (omega arith)
there_by set w g e fs [] false (suc k) f d rest p l q h = h k (omega arith) (omega arith) q
there_by set w g e fs (x ∷ xs) false (suc k) f d rest p l q h = h k (omega arith) (omega arith) q

-- formal k of fs
pub record Formal (fs : List Parameter) (k : ℕ) : Type 0 where
  pub its_name : List ℕ
  pub its_default : Option (List ℕ)
  pub others : List Parameter
  pub shape : drop k fs ≡ parameter its_name its_default ∷ others

pub formal_at : (fs : List Parameter) (k : ℕ) → k < length fs → Formal fs k
formal_at [] k h = absurd (not-suc-le-zero h)
formal_at (parameter f d ∷ fs) zero h = record { its_name = f; its_default = d; others = fs; shape = refl }
formal_at (parameter f d ∷ fs) (suc k) h =
    let r = formal_at fs k (omega arith) in
    record { its_name = r.its_name; its_default = r.its_default; others = r.others; shape = r.shape }

-- the argument of the formal of that name, or its default
pub value_at : (set : List ℕ) (fs : List Parameter) (xs : List (List Pending)) (w : List ℕ) (k : ℕ) (f : List ℕ) (d : Option (List ℕ)) (rest : List Parameter)
    → k ≡ formal_index w fs → k < length fs → drop k fs ≡ parameter f d ∷ rest → value set fs xs w ≡ some (or_else set d (get_or xs k []))
unfolding formal_index
value_at set [] xs w k f d rest p l q = absurd (not-suc-le-zero l)
value_at set (parameter g e ∷ fs) xs w k f d rest p l q =
    value_step set g e fs xs w
    ∙ there_by set w g e fs xs (same w g) k f d rest p l q (λ j p' l' q'. value_at set fs (drop 1 xs) w j f d rest p' l' q')

-- ---- what takes the place of a token

name_blank : (k : ℕ) → (eqb k Name || eqb k Escaped) ≡ true → is_blank k ≡ false
name_blank k h = go (eqb k Name) refl h
  where
    go : (t : Bool) → eqb k Name ≡ t → (t || eqb k Escaped) ≡ true → is_blank k ≡ false
    go true e q = rw (eqb-true k Name e)
    go false e q = rw (eqb-true k Escaped q)

module _ (set : List ℕ) (w : List ℕ) (t : Token) where
  view_named : (eqb t.kind Name || eqb t.kind Escaped) ≡ true → view (text_token w set t) ≡ names (name_of w t)
  unfolding view kind_view
  view_named h = rw (name_blank t.kind h, h)

  module _ (fs : List Parameter) (xs : List (List Pending)) where
    image_named : (eqb t.kind Name || eqb t.kind Escaped) ≡ true
        → image_in set fs xs (text_token w set t) ≡ instead (value set fs xs (name_of w t)) (text_token w set t)
    image_named h = ap (λ (v : View). image_of v (text_token w set t) (value set fs xs)) (view_named h)

    -- a token that is no name stays
    pub image_other : (eqb t.kind Name || eqb t.kind Escaped) ≡ false → image_in set fs xs (text_token w set t) ≡ text_token w set t ∷ []
    unfolding view kind_view
    image_other h =
        let p = text_token w set t in
        let k = t.kind in
        let x = get_or p.bytes 0 0 in
        let P : View → Type 0 = λ v. image_of v p (value set fs xs) ≡ p ∷ [] in
        by_test P (is_blank k) (λ e. refl)
        (λ e. by_test P (eqb k Name || eqb k Escaped) (λ z. true_false (eqb k Name || eqb k Escaped) z h)
        (λ z. by_test P (eqb k Quote) (λ y. refl)
        (λ y. by_test P (eqb k Grave)
        (λ g. by_test P (bars_text (name_of w t)) (λ a. refl) (λ a. by_test P (is_directive (name_of w t)) (λ c. refl) (λ c. refl)))
        (λ g. by_test P (eqb k Byte)
        (λ b. by_test P (eqb x 40) (λ a. refl)
        (λ a. by_test P (eqb x 91) (λ c. refl)
        (λ c. by_test P (eqb x 123) (λ d. refl)
        (λ d. by_test P (eqb x 41 || (eqb x 93 || eqb x 125)) (λ f. refl)
        (λ f. by_test P (eqb x 44) (λ j. refl) (λ j. refl))))))
        (λ b. refl)))))

    -- and a name that is no formal's
    pub image_none : {b : List ℕ} {u : List ℕ} {v : Which} → (eqb t.kind Name || eqb t.kind Escaped) ≡ true → u ≡ name_of w t → WhichIs b fs u v
        → v.number ≡ length fs → image_in set fs xs (text_token w set t) ≡ text_token w set t ∷ []
    image_none {b} {u} {v} h e i l =
        let k : formal_index (name_of w t) fs ≡ length fs = sym (ap (λ (y : List ℕ). formal_index y fs) e) ∙ sym i.number_is ∙ l in
        image_named h ∙ ap (λ (v : Option (List Pending)). instead v (text_token w set t)) (value_none set fs xs (name_of w t) k)

    image_at : (k : ℕ) (f : List ℕ) (d : Option (List ℕ)) (rest : List Parameter) → (eqb t.kind Name || eqb t.kind Escaped) ≡ true
        → k ≡ formal_index (name_of w t) fs → k < length fs → drop k fs ≡ parameter f d ∷ rest
        → image_in set fs xs (text_token w set t) ≡ or_else set d (get_or xs k [])
    image_at k f d rest h e l q =
        image_named h ∙ ap (λ (v : Option (List Pending)). instead v (text_token w set t)) (value_at set fs xs (name_of w t) k f d rest e l q)

-- what holds of any formal holds of the one of that name
pub at_formal : {A : Type 0} (b : List ℕ) (fs : List Parameter) (u : List ℕ) (v : Which) → WhichIs b fs u v → v.number < length fs
    → ((f : List ℕ) (d : Option (List ℕ)) (rest : List Parameter) → FormalsAt b v.at (parameter f d ∷ rest) → A) → A
at_formal b fs u v i l g =
    let q = formal_at fs v.number l in
    g q.its_name q.its_default q.others (subst (λ (ps : List Parameter). FormalsAt b v.at ps) q.shape (i.there l))

module _ (s b : List ℕ) (o o' : List (List ℕ)) (most at : ℕ) where
  -- a formal's name gives way to its value
  pub image_value : (r : Opt ℕ) (set : List ℕ) (w : List ℕ) (t : Token) (fs : List Parameter) (xs : List (List Pending)) (u : List ℕ) (v : Which)
      → (eqb t.kind Name || eqb t.kind Escaped) ≡ true → u ≡ name_of w t → WhichIs b fs u v → v.number < length fs
      → ((f : List ℕ) (d : Option (List ℕ)) (rest : List Parameter) → FormalsAt b v.at (parameter f d ∷ rest)
      → AddsBy r s b o o' most at (or_else set d (get_or xs v.number [])))
      → AddsBy r s b o o' most at (image_in set fs xs (text_token w set t))
  image_value r set w t fs xs u v h e i l g =
      let q = formal_at fs v.number l in
      let k : v.number ≡ formal_index (name_of w t) fs = i.number_is ∙ ap (λ (y : List ℕ). formal_index y fs) e in
      let m = image_at set w t fs xs v.number q.its_name q.its_default q.others h k l q.shape in
      subst (λ (y : List Pending). AddsBy r s b o o' most at y) (sym m)
      (g q.its_name q.its_default q.others (subst (λ (ps : List Parameter). FormalsAt b v.at ps) q.shape (i.there l)))

  -- a token that stays is added by its reference
  pub image_kept : (r : Opt ℕ) (set : MacroSet) (w : List ℕ) (t : Token) (fs : List Parameter) (xs : List (List Pending)) (base : ℕ) (p : Pend)
      → w ≡ part b base (base + length w) → t.at ≤ t.end → t.from ≤ t.end → t.end ≤ length w → p ≡ stored_ref base t set
      → image_in (members set) fs xs (text_token w (members set) t) ≡ text_token w (members set) t ∷ []
      → AddsBy r s b o o' most at (pending_by s b p ∷ [])
      → AddsBy r s b o o' most at (image_in (members set) fs xs (text_token w (members set) t))
  image_kept r set w t fs xs base p e h f g q m a =
      let z : pending_by s b p ≡ text_token w (members set) t = ap (λ (y : Pend). pending_by s b y) q ∙ stored_token s b w base t set e h f g in
      subst (λ (y : List Pending). AddsBy r s b o o' most at y) (ap (λ (y : Pending). y ∷ []) z ∙ sym m) a

-- ---- one token after the other

text_out : (f : List ℕ → Option (List Pending)) (w set : List ℕ) (marks : Bool) (i : ℕ) → length w ≤ i
    → in_place f (text_tokens w set (tokens (between in_text marks) w i)) ≡ []
unfolding in_place text_tokens
text_out f w set marks i h = rw (tokens_out (between in_text marks) w i h)

text_next : (f : List ℕ → Option (List Pending)) (w set : List ℕ) (marks : Bool) (i : ℕ) (t : Token) → i < length w → t ≡ token_at (between in_text marks) w i
    → in_place f (text_tokens w set (tokens (between in_text marks) w i))
    ≡ image_of (view (text_token w set t)) (text_token w set t) f ++ in_place f (text_tokens w set (tokens (between in_text (marks_after marks t)) w t.end))
unfolding in_place text_tokens
text_next f w set marks i t h e =
    rw (tokens-text marks (between in_text marks) w i t refl e h)

take_own : (n : ℕ) (l : List ℕ) → take (length (take n l)) l ≡ take n l
take_own zero l = refl
take_own (suc n) [] = refl
take_own (suc n) (x ∷ xs) = ap (λ (r : List ℕ). x ∷ r) (take_own n xs)

-- a part of b, by its own length
pub part_own : (b w : List ℕ) (i e : ℕ) → w ≡ part b i e → w ≡ part b i (i + length w)
part_own b w i e h =
    let z : i + length w - i ≡ length w = omega arith in
    rw z (h ∙ sym (ap (λ (v : List ℕ). take (length v) (drop i b)) h ∙ take_own (e - i) (drop i b)))

-- the token at i lies in the text
pub token_inside : (m : Mode) (w : List ℕ) (i : ℕ) (t : Token) → t ≡ token_at m w i → i < length w
    → (t.at ≤ t.end) × (t.from ≤ t.end) × (t.end ≤ length w)
token_inside m w i t e h = let z = token_sound m w i h in rw e (omega arith)

-- the text w from i on is left, what takes the place of the tokens before it is added to o, which is o' then
pub record Placed (s b w set : List ℕ) (fs : List Parameter) (xs : List (List Pending)) (o o' : List (List ℕ)) (most k i : ℕ) (marks : Bool) : Type 0 where
  pub before : List Pending
  pub adds : Adds s b o o' most 0 k before
  pub rest : in_place (value set fs xs) (text_tokens w set (tokens in_text w 0))
      ≡ before ++ in_place (value set fs xs) (text_tokens w set (tokens (between in_text marks) w i))

module _ {s b w set : List ℕ} {fs : List Parameter} {xs : List (List Pending)} {o : List (List ℕ)} {most : ℕ} where
  module _ {o₁ : List (List ℕ)} {k i : ℕ} {marks : Bool} (p : Placed s b w set fs xs o o₁ most k i marks) where
    step : (t : Token) → i < length w → t ≡ token_at (between in_text marks) w i
        → in_place (value set fs xs) (text_tokens w set (tokens in_text w 0))
        ≡ p.before ++ (image_in set fs xs (text_token w set t) ++ in_place (value set fs xs) (text_tokens w set (tokens (between in_text (marks_after marks t)) w t.end)))
    step t h e = p.rest ∙ ap (λ (y : List Pending). p.before ++ y) (text_next (value set fs xs) w set marks i t h e)

    -- the next token's place is taken
    pub placed_more : (m : Mode) (t : Token) (o₂ : List (List ℕ)) (n : ℕ) (marks' : Bool) → i < length w
        → m ≡ between in_text marks → t ≡ token_at m w i
        → Adds s b o₁ o₂ most k n (image_in set fs xs (text_token w set t)) → marks' ≡ marks_after marks t
        → Placed s b w set fs xs o o₂ most n t.end marks'
    placed_more m t o₂ n marks' h f g a z =
        let e : t ≡ token_at (between in_text marks) w i = g ∙ ap (λ (x : Mode). token_at x w i) f in
        let j = image_in set fs xs (text_token w set t) in
        record {
          before = p.before ++ j;
          adds = adds_then p.adds a;
          rest = rw z (step t h e ∙ sym (append_assoc p.before j (in_place (value set fs xs) (text_tokens w set (tokens (between in_text (marks_after marks t)) w t.end)))));
        }

    -- there is no room for it
    pub placed_full : (m : Mode) (t : Token) (o₂ : List (List ℕ)) (v : List ℕ) → i < length w
        → m ≡ between in_text marks → t ≡ token_at m w i
        → (most < k + length (image_in set fs xs (text_token w set t))) × (length o₂ ≡ length o₁) → w ≡ v
        → (most < 0 + length (text_with set fs xs v)) × (length o₂ ≡ length o)
    placed_full m t o₂ v h f g a q =
        let e : t ≡ token_at (between in_text marks) w i = g ∙ ap (λ (x : Mode). token_at x w i) f in
        let j = image_in set fs xs (text_token w set t) in (
          subst (λ (y : List ℕ). most < 0 + length (text_with set fs xs y)) q
              (rw (step t h e) (adds_full_behind p.adds j (in_place (value set fs xs) (text_tokens w set (tokens (between in_text (marks_after marks t)) w t.end))) a.0)),
          a.1 ∙ p.adds.same_length,
        )

    -- no token is left
    pub placed_all : (v : List ℕ) → length w ≤ i → w ≡ v → Adds s b o o₁ most 0 k (text_with set fs xs v)
    placed_all v h q =
        let e : text_with set fs xs w ≡ p.before =
        p.rest ∙ ap (λ (y : List Pending). p.before ++ y) (text_out (value set fs xs) w set marks i h) ∙ append-nil p.before in
        subst (λ (y : List ℕ). Adds s b o o₁ most 0 k (text_with set fs xs y)) q (rw e p.adds)
