-- What a token does in a list, as the code finds it: by what its byte does among brackets, by its kind, by whether it is barred.
-- Assumes nothing.
use Prim.Native.Nat.{ℕ, ◌+◌, ◌<◌, ◌≤◌}
use mathlib.Core.Bool.{Bool, true, false, cond, ◌||◌}
use mathlib.Core.List.{List, [], ◌∷◌}
use mathlib.Core.Path.{◌≡◌, refl, sym, ap, ◌∙◌, subst}
use lib.Dec.{eqb}
use lib.ListN.{get_or}
use borrow.Author.Tests.{eqb-true, eq-eqb, ne_eqb, lt-ltb, le-ltb}
use Rattle.lex.specs.Tokens.{Name, Escaped, Quote, Grave, Byte}
use Rattle.names.specs.Names.{is_directive, directive_of}
use Rattle.brackets.specs.Steps.{Step, on, done, torn, step_of}
use Rattle.brackets.specs.Stacks.{stack_of, SteppedBy}
use Rattle.brackets.specs.declared.Stepped.{Stepped}
use Rattle.brackets.specs.declared.Stepped.TheVariants as stepped
use Rattle.brackets.proofs.Stacking.{stepped_on, stepped_done, stepped_torn}
use Rattle.pending.specs.declared.Item.{Item}
use Rattle.pending.specs.Pending.{View, blanks, calls, names, opens, closes, commas, bars, plain, is_barred, byte_view, is_blank, kind_view, view}
use Rattle.pending.specs.References.{raw_of, pending_by}
use Rattle.pending.specs.Sources.{item_of}
use Rattle.pending.proofs.Viewing.{view_clear, view_shut, first_raw, kind_view_first}
use Rattle.arguments.specs.Arguments.{Move, keep, part, close, fail, closing, comma, move_of}
use Rattle.arguments.specs.Moving.{MovedBy}
use Rattle.arguments.specs.declared.Move as moved

-- ---- every token

-- what holds of each way to move holds of a token's
pub by_move : (P : (List ℕ → Move) → Type 0) → P (λ due. keep due) → ((c : ℕ) → P (λ due. keep (c ∷ due))) → ((b : ℕ) → P (λ due. closing b due))
    → P (λ due. comma due) → ((n i : ℕ) → P (λ due. fail n i)) → (v : View) → P (λ due. move_of v due)
by_move P k o c m f blanks = k
by_move P k o c m f (calls w) = k
by_move P k o c m f (names w) = k
by_move P k o c m f (opens b) = o b
by_move P k o c m f (closes b) = c b
by_move P k o c m f commas = m
by_move P k o c m f (bars n i) = f n i
by_move P k o c m f plain = k

-- a token that stays in a list is not refused there
pub stays_free : (v : View) (due : List ℕ) → ((n i : ℕ) → move_of v due ≡ fail n i → ⊥) → is_barred v ≡ false
stays_free blanks due h = refl
stays_free (calls w) due h = refl
stays_free (names w) due h = refl
stays_free (opens c) due h = refl
stays_free (closes b) due h = refl
stays_free commas due h = refl
stays_free (bars n i) due h = absurd (h n i refl)
stays_free plain due h = refl

-- ---- a byte, a token of its own

-- the move of the byte b that takes this step
abbrev move_as : ℕ → Step → Move
move_as b (on due) = keep due
move_as b done = cond (eqb b 44) part close
move_as b torn = fail 14 0

closes_as : (b : ℕ) (due : List ℕ) (t : Bool) → cond t (keep due) (fail 14 0) ≡ move_as b (cond t (on due) torn)
closes_as b due true = refl
closes_as b due false = refl

-- a comma, and the three closing brackets
as_comma : (due : List ℕ) → move_of (byte_view 44) due ≡ move_as 44 (step_of 44 due)
unfolding step_of
as_comma [] = refl
as_comma (c ∷ due) = refl

as_paren : (due : List ℕ) → move_of (byte_view 41) due ≡ move_as 41 (step_of 41 due)
unfolding step_of
as_paren [] = refl
as_paren (c ∷ due) = closes_as 41 due (eqb 41 c)

as_bracket : (due : List ℕ) → move_of (byte_view 93) due ≡ move_as 93 (step_of 93 due)
unfolding step_of
as_bracket [] = refl
as_bracket (c ∷ due) = closes_as 93 due (eqb 93 c)

as_brace : (due : List ℕ) → move_of (byte_view 125) due ≡ move_as 125 (step_of 125 due)
unfolding step_of
as_brace [] = refl
as_brace (c ∷ due) = closes_as 125 due (eqb 125 c)

module _ (b : ℕ) (due : List ℕ) where
  abbrev AsStep : ℕ → Type 0
  AsStep x = move_of (byte_view x) due ≡ move_as x (step_of x due)

  as_step : AsStep b
  unfolding step_of
  as_step = go (eqb b 44) (eqb b 41) (eqb b 93) (eqb b 125) (eqb b 40) (eqb b 91) (eqb b 123) refl refl refl refl refl refl refl
    where
      at : (n : ℕ) → eqb b n ≡ true → AsStep n → AsStep b
      at n e h = subst (λ (x : ℕ). AsStep x) (sym (eqb-true b n e)) h

      go : (p q r s t u v : Bool) → eqb b 44 ≡ p → eqb b 41 ≡ q → eqb b 93 ≡ r → eqb b 125 ≡ s → eqb b 40 ≡ t → eqb b 91 ≡ u → eqb b 123 ≡ v → AsStep b
      go true q r s t u v e1 e2 e3 e4 e5 e6 e7 = at 44 e1 (as_comma due)
      go false true r s t u v e1 e2 e3 e4 e5 e6 e7 = at 41 e2 (as_paren due)
      go false false true s t u v e1 e2 e3 e4 e5 e6 e7 = at 93 e3 (as_bracket due)
      go false false false true t u v e1 e2 e3 e4 e5 e6 e7 = at 125 e4 (as_brace due)
      go false false false false true u v e1 e2 e3 e4 e5 e6 e7 = at 40 e5 refl
      go false false false false false true v e1 e2 e3 e4 e5 e6 e7 = at 91 e6 refl
      go false false false false false false true e1 e2 e3 e4 e5 e6 e7 = at 123 e7 refl
      go false false false false false false false e1 e2 e3 e4 e5 e6 e7 = rw (e1, e2, e3, e4, e5, e6, e7)

  -- a step that goes on keeps the byte
  pub step_keeps : (ks : List ℕ) → step_of b due ≡ on ks → move_of (byte_view b) due ≡ keep ks
  step_keeps ks e = as_step ∙ ap (move_as b) e

-- the step r that the code took with n brackets due
module _ (b : ℕ) (w w' : List ℕ) (n : ℕ) (r : Stepped) (h : SteppedBy r (step_of b (stack_of w n)) w w' n) where
  abbrev Moves : Move → Type 0
  Moves m = move_of (byte_view b) (stack_of w n) ≡ m

  pub byte_keep : (d : ℕ) → r ≡ stepped.On d → Moves (keep (stack_of w' d)) × (d ≤ n + 1)
  byte_keep d e =
      let p = stepped_on r (step_of b (stack_of w n)) w w' n h d e in
      (as_step b (stack_of w n) ∙ ap (move_as b) p.0, p.1)

  pub byte_part : r ≡ stepped.Done → b ≡ 44 → Moves part × (w' ≡ w)
  byte_part e q =
      let p = stepped_done r (step_of b (stack_of w n)) w w' n h e in
      (as_step b (stack_of w n) ∙ ap (move_as b) p.0 ∙ rw (eq-eqb b 44 q), p.1)

  pub byte_close : r ≡ stepped.Done → (b ≡ 44 → ⊥) → Moves close
  byte_close e q =
      let p = stepped_done r (step_of b (stack_of w n)) w w' n h e in
      as_step b (stack_of w n) ∙ ap (move_as b) p.0 ∙ rw (ne_eqb b 44 q)

  pub byte_fail : r ≡ stepped.Torn → Moves (fail 14 0)
  byte_fail e = as_step b (stack_of w n) ∙ ap (move_as b) (stepped_torn r (step_of b (stack_of w n)) w w' n h e).0

-- ---- a token that nothing bars, by its kind k, its first byte b and its name w

module _ (k b : ℕ) (w due : List ℕ) where
  abbrev Does : Move → Type 0
  Does m = move_of (kind_view k b w) due ≡ m

  kind_single : k ≡ Byte → Does (move_of (byte_view b) due)
  unfolding kind_view
  kind_single e = rw e

  pub kind_quote : k ≡ Quote → Does (fail 14 0)
  unfolding kind_view
  kind_quote e = rw e

  pub kind_barred : (d : ℕ) → k ≡ Grave → d ≡ directive_of w → 2 < d → Does (fail 14 0)
  unfolding kind_view
  kind_barred d e q h = let l : 2 < directive_of w = rw q at h in rw (e, lt-ltb 2 (directive_of w) l)

  pub kind_grave : (d : ℕ) → k ≡ Grave → d ≡ directive_of w → d ≤ 2 → Does (keep due)
  unfolding kind_view
  kind_grave d e q h = let l : directive_of w ≤ 2 = rw q at h in rw (e, le-ltb 2 (directive_of w) l) (go (is_directive w))
    where
      go : (t : Bool) → move_of (cond t plain (calls w)) due ≡ keep due
      go true = refl
      go false = refl

  pub kind_other : (k ≡ Byte → ⊥) → (k ≡ Quote → ⊥) → (k ≡ Grave → ⊥) → Does (keep due)
  unfolding kind_view
  kind_other e q g = rw (ne_eqb k Byte e, ne_eqb k Quote q, ne_eqb k Grave g) (go (is_blank k) (eqb k Name || eqb k Escaped))
    where
      go : (s t : Bool) → move_of (cond s blanks (cond t (names w) plain)) due ≡ keep due
      go true t = refl
      go false true = refl
      go false false = refl

-- the move of a byte
pub kind_byte : (k b : ℕ) (w u u' : List ℕ) (n : ℕ) (r : moved.Move) → k ≡ Byte → MovedBy r (move_of (byte_view b) (stack_of u n)) u u' n
    → MovedBy r (move_of (kind_view k b w) (stack_of u n)) u u' n
kind_byte k b w u u' n r e h = subst (λ (m : Move). MovedBy r m u u' n) (sym (kind_single k b w (stack_of u n) e)) h

-- ---- a token

module _ (s b : List ℕ) (t : Item) where
  pub item_shut : (t.bar ≡ 0 → ⊥) → view (item_of s b t) ≡ bars t.bar t.at
  item_shut h = view_shut (item_of s b t) (ne_eqb t.bar 0 h)

  -- x: its first byte, w: its name
  pub item_clear : (x : ℕ) (w : List ℕ) → t.bar ≡ 0 → x ≡ get_or (raw_of s b t.pend) 0 0 → w ≡ (pending_by s b t.pend).name
      → view (item_of s b t) ≡ kind_view t.pend.kind x w
  unfolding pending_by
  item_clear x w e p q =
      view_clear (item_of s b t) e
      ∙ kind_view_first t.pend.kind (get_or (item_of s b t).bytes 0 0) x (item_of s b t).name (λ k. first_raw s b t.pend (rw (eqb-true t.pend.kind Byte k)) ∙ sym p)
      ∙ ap (λ (w : List ℕ). kind_view t.pend.kind x w) (sym q)

  pub move_shut : (due : List ℕ) → (t.bar ≡ 0 → ⊥) → move_of (view (item_of s b t)) due ≡ fail t.bar t.at
  move_shut due h = ap (λ (v : View). move_of v due) (item_shut h)

  pub move_clear : (u u' : List ℕ) (n : ℕ) (r : moved.Move) (x : ℕ) (w : List ℕ) → t.bar ≡ 0 → x ≡ get_or (raw_of s b t.pend) 0 0 → w ≡ (pending_by s b t.pend).name
      → MovedBy r (move_of (kind_view t.pend.kind x w) (stack_of u n)) u u' n → MovedBy r (move_of (view (item_of s b t)) (stack_of u n)) u u' n
  move_clear u u' n r x w e p q h = subst (λ (v : View). MovedBy r (move_of v (stack_of u n)) u u' n) (sym (item_clear x w e p q)) h
