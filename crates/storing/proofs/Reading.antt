-- The tokens of macro text, one at a time, as a loop reads them: t is the token at i, read between quote marks or not.
-- Assumes nothing.
use Prim.Native.Nat.{ℕ, ◌<◌}
use mathlib.Core.Bool.{Bool, true, false, cond, not}
use mathlib.Core.List.{List, [], ◌∷◌}
use mathlib.Core.Path.{◌≡◌, refl, ap, ◌∙◌}
use lib.ListN.{length}
use borrow.Author.Tests.{eq-eqb, ne_eqb}
use Rattle.lex.specs.Tokens.{in_definition, in_text, between, Newline, Quote, is, marks_after, mode_after, token_at, tokens}
use Rattle.lex.specs.declared.Mode.{Mode}
use Rattle.lex.specs.declared.Token.{Token}
use Rattle.lex.proofs.Progress.{token_ends}
use Rattle.lex.proofs.Listing.{tokens_next, tokens_stop, tokens_on}

-- macro text, as it stands in its file or stored
abbrev pub textual : Bool → Mode
textual define = record { text = true; define = define; marks = false }

-- past a token the mode is as the quote marks say
pub text_after : (define b : Bool) (t : Token) → mode_after (between (textual define) b) t ≡ between (textual define) (marks_after b t)
text_after define b t = go (is Quote t)
  where
    go : (q : Bool) → ◌≡◌ {A = Mode} (cond q (between (textual define) (not b)) (between (textual define) b)) (between (textual define) (cond q (not b) b))
    go true = refl
    go false = refl

-- a token is not empty
pub token_past : (m : Mode) (s : List ℕ) (i : ℕ) (t : Token) → t ≡ token_at m s i → i < length s → i < t.end
token_past m s i t q l = rw q (token_ends m s i l)

module _ (b : Bool) (m : Mode) (s : List ℕ) (i : ℕ) (t : Token) where
  module _ (p : m ≡ between in_definition b) (q : t ≡ token_at m s i) (l : i < length s) where
    -- a definition ends at its newline
    pub newline_stops : t.kind ≡ Newline → tokens (between in_definition b) s i ≡ []
    newline_stops e =
        let z : t ≡ token_at (between in_definition b) s i = q ∙ ap (λ (m : Mode). token_at m s i) p in
        tokens_stop (between in_definition b) s i l (rw (← z) (eq-eqb t.kind Newline e))

    pub define_next : (t.kind ≡ Newline → ⊥) → tokens (between in_definition b) s i ≡ t ∷ tokens (between in_definition (marks_after b t)) s t.end
    define_next n =
        let z : t ≡ token_at (between in_definition b) s i = q ∙ ap (λ (m : Mode). token_at m s i) p in
        tokens_next (between in_definition b) s i l (rw (← z) (ne_eqb t.kind Newline n))
        ∙ rw (← z, text_after true b t)

  pub text_next : m ≡ between in_text b → t ≡ token_at m s i → i < length s
      → tokens (between in_text b) s i ≡ t ∷ tokens (between in_text (marks_after b t)) s t.end
  text_next p q l =
      let z : t ≡ token_at (between in_text b) s i = q ∙ ap (λ (m : Mode). token_at m s i) p in
      tokens_on (between in_text b) s i l refl ∙ rw (← z, text_after false b t)
