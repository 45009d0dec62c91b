-- Conditions (02, P1): "a parenthesised condition over names, with `!`, `&&`, `||`, `->`, `<->` and parentheses".
-- What is read from a place on: its value and the place behind it, or a refusal and its place.
-- Assumes nothing.
use Rattle.std.specs.Prelude.{ℕ, zero, suc, ◌+◌, Bool, true, false, cond, not, ◌&&◌, ◌||◌, List, eqb, length, drop, Result, Ok, Err}
use Rattle.text.specs.Bytes.{bytes, begins}
use Rattle.lex.specs.Tokens.{in_file, Name, Escaped, is, name_of, token_at}
use Rattle.lex.specs.declared.Fault.{Fault}
use Rattle.lex.specs.declared.Token.{Token}
use Rattle.lex.specs.Faults.{fault, fault_of}
use Rattle.directive.specs.Words.{word_start}
use Rattle.definition.specs.Definitions.{Macro}
use Rattle.store.specs.Stores.{find}

abbrev pub is_at : Result ℕ ℕ → Bool
is_at (Ok i) = true
is_at (Err i) = false

-- "a name being 1 if defined"; a directive's name never is
abbrev pub is_defined : List Macro → List ℕ → Bool
is_defined ms w = is_at (find w ms)

-- the value and the place behind it, or a refusal
abbrev pub Condition : Type 0
Condition = Result (Bool × ℕ) Fault

abbrev pub on_truth : Condition → (Bool → ℕ → Condition) → Condition
on_truth (Ok x) k = k x.0 x.1
on_truth (Err g) k = Err g

-- f done to the value
abbrev pub mapped : (Bool → Bool) → Condition → Condition
mapped f r = on_truth r (λ v p. Ok (f v, p))

-- the token t does not fit: 2 to 6 at itself come first, then 7 at q
abbrev pub unfit : Token → ℕ → Condition
unfit t q = cond (eqb t.bar 0) (Err (fault 7 q)) (Err (fault_of t))

-- an operator, and the place behind it
pub data Operator : Type 0 where
  none_here : Operator
  operator : (Bool → Bool → Bool) → ℕ → Operator

abbrev pub implies : Bool → Bool → Bool
implies a b = not a || b

abbrev pub equivalent : Bool → Bool → Bool
equivalent a b = cond a b (not b)

module _ (s : List ℕ) where
  -- "each operator in it one token"
  abbrev pub stands : List ℕ → ℕ → Bool
  stands w i = begins (drop i s) w

  unfoldable pub and_at : ℕ → Operator
  and_at i = cond (stands (bytes "&&") i) (operator ◌&&◌ (i + 2)) none_here

  unfoldable pub or_at : ℕ → Operator
  or_at i = cond (stands (bytes "||") i) (operator ◌||◌ (i + 2)) none_here

  unfoldable pub arrow_at : ℕ → Operator
  arrow_at i =
      cond (stands (bytes "->") i) (operator implies (i + 2))
      (cond (stands (bytes "<->") i) (operator equivalent (i + 3))
      none_here)

  -- "A condition sits on one line", white bytes and comments on it between tokens
  abbrev pub spaced : Condition → Condition
  spaced r = on_truth r (λ v p. Ok (v, word_start s p))

  -- the value v up to p, with the operator there and what `rest` reads behind it
  abbrev pub joined : Operator → Bool → ℕ → (ℕ → Condition) → Condition
  joined none_here v p rest = Ok (v, p)
  joined (operator f e) v p rest = mapped (f v) (rest (word_start s e))

  -- parts that `one` reads, with operators between them, grouped from the right; n: fuel
  unfoldable pub chain : (ℕ → Operator) → (ℕ → Condition) → ℕ → ℕ → Condition
  chain op one zero i = Err (fault 7 i)
  chain op one (suc n) i = on_truth (one i) (λ v p. joined (op p) v p (λ q. chain op one n q))

  -- an operand that `one` reads, behind any number of `!`; n: fuel
  unfoldable pub negated : (ℕ → Condition) → ℕ → ℕ → Condition
  negated one zero i = Err (fault 7 i)
  negated one (suc n) i = cond (stands (bytes "!") i) (mapped not (negated one n (word_start s (i + 1)))) (spaced (one i))

  -- what stands in parentheses, up to the `)`
  abbrev pub closed : Condition → Condition
  closed r = on_truth r (λ v p. cond (stands (bytes ")") p) (Ok (v, p + 1)) (unfit (token_at in_file s p) p))

  module _ (defined : List ℕ → Bool) where
    -- "over names": plain and escaped; q: the place of 7, if none stands at i
    unfoldable pub name_at : ℕ → ℕ → Condition
    name_at q i =
        let t = token_at in_file s i in
        cond (eqb t.bar 0 && (is Name t || is Escaped t)) (Ok (defined (name_of s t), t.end)) (unfit t q)

    -- a name, or a condition in parentheses that `group` reads
    abbrev pub operand : (ℕ → Condition) → ℕ → ℕ → Condition
    operand group q i = cond (stands (bytes "(") i) (group i) (name_at q i)

    module _ (group : ℕ → Condition) where
      -- "`!` binds first"
      abbrev pub nots_by : ℕ → Condition
      nots_by i = negated (λ j. operand group j j) (suc (length s)) i

      -- "then `&&`"
      abbrev pub ands_by : ℕ → Condition
      ands_by i = chain and_at nots_by (suc (length s)) i

      -- "then `||`"
      abbrev pub ors_by : ℕ → Condition
      ors_by i = chain or_at ands_by (suc (length s)) i

      -- "then the two arrows, which group from the right"
      abbrev pub arrows_by : ℕ → Condition
      arrows_by i = chain arrow_at ors_by (suc (length s)) i

    -- from a `(` on, where n may open, itself among them: "At most 32 open parentheses", else 7 at it
    unfoldable pub parentheses_at : ℕ → ℕ → Condition
    parentheses_at zero i = Err (fault 7 i)
    parentheses_at (suc n) i = closed (arrows_by (parentheses_at n) (word_start s (i + 1)))

    -- the condition behind the conditional word t: a name, or else 7 at the word; "once its first `(` stands: at the first
    -- token that doesn't fit, or the file's end"
    unfoldable pub condition_at : Token → Condition
    condition_at t = operand (parentheses_at 32) t.at (word_start s t.end)
