-- The tokens from a position on, one at a time: of the file, and of the pending list.
-- Assumes nothing.
use Prim.Native.Nat.{ℕ, zero, suc, ◌+◌, ◌-◌, ◌<◌, ◌≤◌}
use mathlib.Core.Bool.{true, false, and-false}
use mathlib.Core.List.{List, [], ◌∷◌}
use mathlib.Core.Path.{◌≡◌, refl, ap, ◌∙◌}
use native.Mathlib.Nat.{le_of_suc-le-suc, not-suc-le-zero}
use native.Mathlib.Numerals.{add-one}
use native.Mathlib.Omega.{arith}
use lib.ListN.{length, get_or, drop, drop_of_length-le}
use Rattle.lex.specs.Tokens.{in_file, token_at}
use Rattle.lex.specs.declared.Mode.{Mode}
use Rattle.lex.specs.declared.Token.{Token}
use Rattle.lex.proofs.Progress.{token_ends, token_within}
use Rattle.lex.proofs.Listing.{tokens_out, file-tokens}
use Rattle.sets.specs.Sets.{members}
use Rattle.sets.specs.declared.MacroSet.{MacroSet}
use Rattle.pending.specs.declared.Item.{Item}
use Rattle.pending.specs.declared.Pend.{Pend}
use Rattle.pending.specs.Pending.{file_token, file_tokens, file_from}
use Rattle.pending.specs.References.{part_in, raw_of, pending_by, pend_of, blank, stacked}
use Rattle.pending.specs.Sources.{items_from, item_of, ItemIs}

-- ---- of the file

pub from_out : (s : List ℕ) (i : ℕ) → length s ≤ i → file_from s i ≡ []
unfolding file_from file_tokens
from_out s i h = rw (tokens_out in_file s i h)

pub from_more : (s : List ℕ) (i : ℕ) → i < length s → file_from s i ≡ file_token s (token_at in_file s i) ∷ file_from s (token_at in_file s i).end
unfolding file_from file_tokens
from_more s i h = rw (file-tokens s i h)

-- a reference into the file
abbrev referred : Token → MacroSet → Pend
referred t q = record { kind = t.kind; source = 0; start = t.at; from = t.from; end = t.end; set = q }

abbrev filed : Token → MacroSet → Item
filed t q = record { pend = referred t q; at = t.at; bar = t.bar; next = t.end }

filed_is : (s b : List ℕ) (t : Token) (q : MacroSet) → members q ≡ [] → item_of s b (filed t q) ≡ file_token s t
unfolding pending_by raw_of part_in
filed_is s b t q e = rw (and-false, e)

module _ (s b : List ℕ) (l : List (List ℕ)) (n i : ℕ) where
  pub file_out : length s ≤ i → items_from s b l n true i ≡ []
  unfolding items_from
  file_out h = from_out s i h

  pub file_seen : (m : Mode) (t : Token) (q : MacroSet) → i < length s → m ≡ in_file → t ≡ token_at m s i → members q ≡ []
      → ItemIs (items_from s b l n true) (length s) i (item_of s b (filed t q)) t.end
  unfolding items_from
  file_seen m t q h f g z =
      let e : t ≡ token_at in_file s i = g ∙ ap (λ (m : Mode). token_at m s i) f in
      record {
        tokens = rw (filed_is s b t q z, e) (from_more s i h);
        past = rw e (token_ends in_file s i h);
        within = rw e (token_within in_file s i h);
      }

-- ---- of the pending list

-- an element within a list, whatever stands for those past its end
any_default : {A : Type 0} (l : List A) (i : ℕ) (d e : A) → i < length l → get_or l i d ≡ get_or l i e
any_default [] i d e h = absurd (not-suc-le-zero h)
any_default (a ∷ l) zero d e h = refl
any_default (a ∷ l) (suc i) d e h = any_default l i d e (le_of_suc-le-suc h)

module _ (s b : List ℕ) (l : List (List ℕ)) where
  pub stacked_length : (n : ℕ) → length (stacked s b l n) ≡ n
  unfolding stacked
  stacked_length zero = refl
  stacked_length (suc n) = ap suc (stacked_length n)

  pub stacked_more : (n i : ℕ) → i < n → drop i (stacked s b l n) ≡ pending_by s b (pend_of (get_or l (n - i - 1) blank)) ∷ drop (suc i) (stacked s b l n)
  unfolding stacked
  stacked_more zero i h = absurd (not-suc-le-zero h)
  stacked_more (suc n) zero h = let e : suc n - 0 - 1 ≡ n = omega arith in rw e
  stacked_more (suc n) (suc i) h = let e : suc n - suc i - 1 ≡ n - i - 1 = omega arith in rw e (stacked_more n i (le_of_suc-le-suc h))

  module _ (n i : ℕ) where
    pub list_out : n ≤ i → items_from s b l n false i ≡ []
    unfolding items_from
    list_out h = let e : length (stacked s b l n) ≡ n = stacked_length n in drop_of_length-le (stacked s b l n) {i = i} (omega arith)

    pub list_seen : (p : Pend) → i < n → n ≤ length l → p ≡ pend_of (get_or l (n - i - 1) [])
        → ItemIs (items_from s b l n false) n i (item_of s b (record { pend = p; at = 0; bar = 0; next = i + 1 })) (i + 1)
    unfolding items_from pending_by
    list_seen p h f e = record {
      tokens = rw (add-one, e, any_default l (n - i - 1) [] blank (omega arith)) (stacked_more n i h);
      past = omega arith;
      within = omega arith;
    }
