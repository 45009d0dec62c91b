-- The tokens of a definition, by the token at i: its extent, the spacing before a word, where a default ends.
-- Assumes nothing.
use Prim.Native.Nat.{ℕ, ◌<◌, ◌≤◌}
use mathlib.Core.Bool.{Bool, true, false, not, ◌||◌}
use mathlib.Core.List.{List, ◌∷◌}
use mathlib.Core.Path.{◌≡◌, refl, sym, ap, ◌∙◌}
use native.Mathlib.Omega.{arith}
use lib.Dec.{eqb}
use lib.ListN.{length}
use borrow.Author.Tests.{eq-eqb, ne_eqb, eqb-true, not-true, not-false}
use Rattle.std.specs.Prelude.{Ok, Err}
use Rattle.lex.specs.declared.Fault.{Fault}
use Rattle.lex.specs.declared.Mode.{Mode}
use Rattle.lex.specs.declared.Token.{Token}
use Rattle.lex.specs.Tokens.{in_definition, between, White, Newline, LineComment, BlockComment, Quote, Continuation, is_gap, marks_after, token_at, tokens}
use Rattle.lex.specs.Faults.{fault_of, worse_of}
use Rattle.lex.proofs.Tests.{true_false}
use Rattle.lex.proofs.Listing.{tokens_out}
use Rattle.brackets.specs.Steps.{Step, on, done, torn}
use Rattle.storing.proofs.Reading.{newline_stops, define_next}
use Rattle.definition.specs.Extents.{mark_of, extent_in}
use Rattle.definition.specs.Heads.{gap_in, gap_end}
use Rattle.definition.specs.Lists.{Ending, step_at, by_step, default_in}
use Rattle.definition.specs.declared.ReadError.TheVariants.{IllFormed}

-- what is not a quote mark leaves the mode
plain_mode : (t : Token) → (t.kind ≡ Quote → ⊥) → between in_definition (marks_after false t) ≡ in_definition
plain_mode t q = rw (ne_eqb t.kind Quote q)

-- a kind of spacing
abbrev gap_kind : ℕ → Bool
gap_kind k = eqb k White || (eqb k LineComment || (eqb k BlockComment || eqb k Continuation))

gap_other : (t : Token) (k : ℕ) → gap_kind k ≡ false → is_gap t ≡ true → t.kind ≡ k → ⊥
gap_other t k z g e = true_false (gap_kind t.kind) g (ap gap_kind e ∙ z)

-- a quote mark tears a default
on_plain : (s : List ℕ) (t : Token) (ks ks' : List ℕ) → step_at s t ks ≡ on ks' → t.kind ≡ Quote → ⊥
unfolding step_at
on_plain s t ks ks' p q =
    let z : ◌≡◌ {A = Step} torn (on ks') = rw (eq-eqb t.kind Quote q) at p in
    let y : ◌≡◌ {A = ℕ} 0 1 = cc in omega arith

-- a default, with brackets due, past the token t
abbrev read_on : List ℕ → Token → List ℕ → Ending
read_on s t ks = default_in s ks (tokens (between in_definition (marks_after false t)) s t.end)

module _ (s : List ℕ) (i : ℕ) where
  -- the token at i, as the code reads it
  pub token_read : (m : Mode) (t : Token) → m ≡ in_definition → t ≡ token_at m s i → token_at in_definition s i ≡ t
  token_read m t f e = rw (e, f)

  pub extent_out : (bars mark : Fault) (marks : Bool) → length s ≤ i
      → extent_in i bars mark (tokens (between in_definition marks) s i) ≡ record { end = i; bars = bars; mark = mark }
  unfolding extent_in
  extent_out bars mark marks h = rw (tokens_out (between in_definition marks) s i h)

  pub gap_out : length s ≤ i → gap_end s i ≡ i
  unfolding gap_end gap_in
  gap_out h = rw (tokens_out in_definition s i h)

  pub default_out : (ks : List ℕ) → length s ≤ i → default_in s ks (tokens in_definition s i) ≡ Err IllFormed
  unfolding default_in
  default_out ks h = rw (tokens_out in_definition s i h)

  -- t: the token at i, as the code reads it
  module _ (marks : Bool) (m : Mode) (t : Token) (h : i < length s) (f : m ≡ between in_definition marks) (e : t ≡ token_at m s i) (bars mark : Fault) where
    pub extent_newline : t.kind ≡ Newline
        → extent_in i bars mark (tokens (between in_definition marks) s i) ≡ record { end = i; bars = bars; mark = mark }
    unfolding extent_in
    extent_newline k = rw (newline_stops marks m s i t f e h k)

    -- what bars the token, the worse, the mark, and whether quote marks are open past it
    pub extent_on : (t.kind ≡ Newline → ⊥) → (a g d : Fault) (n : Bool) → a ≡ fault_of t → g ≡ worse_of bars a → d ≡ mark_of mark t → n ≡ marks_after marks t
        → extent_in i bars mark (tokens (between in_definition marks) s i) ≡ extent_in t.end g d (tokens (between in_definition n) s t.end)
    unfolding extent_in
    extent_on k a g d n p q x y = rw (define_next marks m s i t f e h k, q, p, x, y)

  module _ (m : Mode) (t : Token) (h : i < length s) (f : m ≡ in_definition) (e : t ≡ token_at m s i) where
    -- past what is no quote mark the tokens are read as before it
    tokens_plain : (t.kind ≡ Newline → ⊥) → (t.kind ≡ Quote → ⊥) → tokens in_definition s i ≡ t ∷ tokens in_definition s t.end
    tokens_plain k q = define_next false m s i t f e h k ∙ ap (λ (m : Mode). t ∷ tokens m s t.end) (plain_mode t q)

    module _ (gap : Bool) (g : gap ≡ is_gap t) where
      pub gap_on : not gap ≡ false → gap_end s i ≡ gap_end s t.end
      unfolding gap_end gap_in
      gap_on n =
          let x : is_gap t ≡ true = sym g ∙ not-false gap n in
          rw (tokens_plain (gap_other t Newline refl x) (gap_other t Quote refl x), x)

      pub gap_stop : not gap ≡ true → gap_end s i ≡ i
      unfolding gap_end gap_in
      gap_stop n = go (eqb t.kind Newline) refl
        where
          go : (b : Bool) → eqb t.kind Newline ≡ b → gap_in i (tokens in_definition s i) ≡ i
          go true q = rw (newline_stops false m s i t f e h (eqb-true t.kind Newline q))
          go false q =
              let x : is_gap t ≡ false = sym g ∙ not-true gap n in
              rw (define_next false m s i t f e h (λ k. true_false (eqb t.kind Newline) (eq-eqb t.kind Newline k) q), x)

    module _ (ks : List ℕ) where
      pub default_newline : t.kind ≡ Newline → default_in s ks (tokens in_definition s i) ≡ Err IllFormed
      unfolding default_in
      default_newline k = rw (newline_stops false m s i t f e h k)

      module _ (k : t.kind ≡ Newline → ⊥) where
        first : default_in s ks (tokens in_definition s i)
            ≡ by_step (step_at s t ks) t (read_on s t)
        unfolding default_in
        first = rw (define_next false m s i t f e h k)

        pub default_done : step_at s t ks ≡ done → default_in s ks (tokens in_definition s i) ≡ Ok (t.at, t.end)
        default_done p = first ∙ ap (λ (r : Step). by_step r t (read_on s t)) p

        pub default_torn : step_at s t ks ≡ torn → default_in s ks (tokens in_definition s i) ≡ Err IllFormed
        default_torn p = first ∙ ap (λ (r : Step). by_step r t (read_on s t)) p

        pub default_on : (ks' : List ℕ) → step_at s t ks ≡ on ks' → default_in s ks (tokens in_definition s i) ≡ default_in s ks' (tokens in_definition s t.end)
        default_on ks' p =
            first ∙ ap (λ (r : Step). by_step r t (read_on s t)) p
            ∙ ap (λ (m : Mode). default_in s ks' (tokens m s t.end)) (plain_mode t (on_plain s t ks ks' p))
