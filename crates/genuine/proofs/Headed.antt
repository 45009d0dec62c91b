-- The head and the formals of a definition that spells a macro out.
-- Assumes nothing.
use Prim.Native.Nat.{ℕ, ◌+◌, ◌≤◌}
use mathlib.Core.Bool.{true, false}
use mathlib.Core.List.{List, [], ◌∷◌, ◌++◌}
use mathlib.Core.Path.{◌≡◌, refl}
use native.Mathlib.Omega.{arith}
use lib.ListN.{length, drop}
use Rattle.text.specs.Bytes.{bytes, part}
use Rattle.lex.specs.Tokens.{in_definition, White, Escaped, Byte, plain, tokens}
use Rattle.storing.specs.Stored.{pieces, trim_left}
use Rattle.definition.specs.Heads.{next_at, open_at, head, head_at}
use Rattle.definition.specs.Lists.{whole}
use Rattle.definition.specs.Definitions.{Parameter, macro, parameters_of, bad_formals, shape_by}
use Rattle.definition.specs.declared.Formal.{Formal}
use Rattle.genuine.specs.Fitness.{fit_name, fit_parameters}
use Rattle.genuine.specs.Spelling.{spelled, spelled_from, definition_of, word_end}
use Rattle.genuine.proofs.Standing.{Stands, stands, past, front, Reads, reads_gap, reads_stop, white_reads, space_pieces, opener, lone_reads, word, escaped_reads}
use Rattle.genuine.proofs.Extended.{Quiet, quiet_one, quiet_then}
use Rattle.genuine.proofs.Listed.{Listed, listed}

-- name and formals of the definition s, and its text, which w spells
pub record Headed (s n : List ℕ) (ps : List Parameter) (w : List ℕ) : Type 0 where
  pub formals : List Formal
  pub text : ℕ
  -- where the text is spelled, spaces before it left out
  pub first : ℕ
  pub name : part s (head_at s word_end).from (head_at s word_end).end ≡ n
  pub shape : shape_by s (head_at s word_end) ≡ whole formals text
  pub means : parameters_of s formals ≡ ps
  pub fine : bad_formals s formals ≡ false
  pub before : text ≤ first
  pub within : first ≤ length s
  pub rest : drop first s ≡ w
  pub quiet : Quiet s word_end first
  pub trims : trim_left (pieces s (length s) false (tokens in_definition s text)) ≡ trim_left (pieces s (length s) false (tokens in_definition s first))

module _ (s n r : List ℕ) (e : drop word_end s ≡ 32 ∷ 92 ∷ (n ++ (32 ∷ r))) (h : fit_name n ≡ true) where
  -- where the name ends
  abbrev z : ℕ
  z = word_end + 1 + 1 + length n

  slash : drop (word_end + 1) s ≡ 92 ∷ (n ++ (32 ∷ r))
  slash = (stands s word_end 32 (92 ∷ (n ++ (32 ∷ r))) e).rest

  from_name : drop (word_end + 1 + 1) s ≡ n ++ (32 ∷ r)
  from_name = (stands s (word_end + 1) 92 (n ++ (32 ∷ r)) slash).rest

  behind_name : drop z s ≡ 32 ∷ r
  behind_name = past s n (32 ∷ r) (word_end + 1 + 1) from_name

  space : Reads s word_end (plain White word_end (word_end + 1) 0)
  space = white_reads s (92 ∷ (n ++ (32 ∷ r))) word_end e

  name : Reads s (word_end + 1) (word Escaped (word_end + 1) (word_end + 1 + 1) n)
  name = escaped_reads s n r (word_end + 1) slash h

  ender : Reads s z (plain White z (z + 1) 0)
  ender = white_reads s r z behind_name

  next : drop (z + 1) s ≡ r
  next = (stands s z 32 r behind_name).rest

  quiet : Quiet s word_end (z + 1)
  quiet = quiet_then (quiet_one space) (quiet_then (quiet_one name) (quiet_one ender))

  word_there : next_at s word_end ≡ word Escaped (word_end + 1) (word_end + 1 + 1) n
  word_there = rw (reads_gap space refl, reads_stop name refl) name.token

  opens_at : open_at s (word Escaped (word_end + 1) (word_end + 1 + 1) n) ≡ z + 1
  unfolding open_at
  opens_at = rw ender.token

-- without formals
bare_headed : (s n w : List ℕ) → drop word_end s ≡ 32 ∷ 92 ∷ (n ++ (32 ∷ 32 ∷ w)) → fit_name n ≡ true → Headed s n [] w
unfolding head_at parameters_of bad_formals trim_left
bare_headed s n w e h =
    let r : List ℕ = 32 ∷ w in
    let z = word_end + 1 + 1 + length n in
    let u : Reads s (z + 1) (plain White (z + 1) (z + 1 + 1) 0) = white_reads s w (z + 1) (next s n r e h) in
    let k : head_at s word_end ≡ head (word Escaped (word_end + 1) (word_end + 1 + 1) n) false z = rw (word_there s n r e h, opens_at s n r e h, u.token) in
    record {
      formals = [];
      text = z;
      first = z + 1 + 1;
      name = rw k (front s n (32 ∷ r) (word_end + 1 + 1) (from_name s n r e h));
      shape = rw k;
      means = refl;
      fine = refl;
      before = omega arith;
      within = omega (arith, u.within);
      rest = (stands s (z + 1) 32 w (next s n r e h)).rest;
      quiet = quiet_then (quiet s n r e h) (quiet_one u);
      trims = rw (space_pieces s r z (length s) (behind_name s n r e h) (omega (arith, u.within)), space_pieces s w (z + 1) (length s) (next s n r e h) u.within);
    }

-- with formals
listed_headed : (s n w : List ℕ) (p : Parameter) (ps : List Parameter) → drop word_end s ≡ 32 ∷ 92 ∷ (n ++ (32 ∷ 40 ∷ (spelled_from p ps ++ w))) → fit_name n ≡ true → fit_parameters (p ∷ ps) ≡ true
    → Headed s n (p ∷ ps) w
unfolding head_at
listed_headed s n w p ps e h g =
    let r : List ℕ = 40 ∷ (spelled_from p ps ++ w) in
    let z = word_end + 1 + 1 + length n in
    let u : Reads s (z + 1) (plain Byte (z + 1) (z + 1 + 1) 0) = lone_reads s (spelled_from p ps ++ w) (z + 1) opener (next s n r e h) in
    let b : Stands s (z + 1) 40 (spelled_from p ps ++ w) = stands s (z + 1) 40 (spelled_from p ps ++ w) (next s n r e h) in
    let k : head_at s word_end ≡ head (word Escaped (word_end + 1) (word_end + 1 + 1) n) true (z + 1 + 1) = rw (word_there s n r e h, opens_at s n r e h, u.token, b.byte) in
    let l : Listed s (z + 1 + 1) (p ∷ ps) w = listed s w (z + 1 + 1) p ps g b.rest in
    record {
      formals = l.formals;
      text = l.next;
      first = l.next;
      name = rw k (front s n (32 ∷ r) (word_end + 1 + 1) (from_name s n r e h));
      shape = rw k l.reads;
      means = l.means;
      fine = l.fine;
      before = omega arith;
      within = l.within;
      rest = l.rest;
      quiet = quiet_then (quiet s n r e h) (quiet_then (quiet_one u) l.quiet);
      trims = refl;
    }

pub headed : (n : List ℕ) (ps : List Parameter) (t : List ℕ) → fit_name n ≡ true → fit_parameters ps ≡ true → Headed (definition_of (macro n ps t)) n ps (spelled t)
unfolding definition_of bytes
headed n [] t h g = bare_headed (definition_of (macro n [] t)) n (spelled t) refl h
headed n (p ∷ ps) t h g = listed_headed (definition_of (macro n (p ∷ ps) t)) n (spelled t) p ps refl h g
