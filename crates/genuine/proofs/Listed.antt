-- Formals as they are spelled in a definition, read there.
-- Assumes nothing.
use Prim.Native.Nat.{ℕ, suc, ◌+◌, ◌≤◌}
use mathlib.Core.Bool.{Bool, true, false, cond, not, ◌&&◌, ◌||◌}
use mathlib.Core.Option.{Option, none, some}
use mathlib.Core.List.{List, [], ◌∷◌, ◌++◌, append-nil, append_assoc}
use mathlib.Core.Path.{◌≡◌, refl, ap, ◌∙◌}
use native.Mathlib.Omega.{arith}
use lib.Dec.{eqb}
use lib.ListN.{length, drop}
use borrow.Author.Tests.{lt-ltb, not-true}
use Rattle.std.specs.Prelude.{Ok}
use Rattle.text.specs.Bytes.{same, holds}
use Rattle.lex.specs.Classes.{is_run}
use Rattle.lex.specs.Tokens.{in_definition, White, Name, Byte, plain, tokens}
use Rattle.lex.specs.Faults.{no_fault}
use Rattle.lex.specs.declared.Token.{Token}
use Rattle.lex.proofs.Tests.{and_left, and_right}
use Rattle.brackets.specs.Steps.{done, step_of}
use Rattle.storing.specs.Stored.{pieces, stored}
use Rattle.storing.specs.Graves.{grave_in, has_grave}
use Rattle.storing.proofs.Joining.{pieces_past}
use Rattle.storing.proofs.Accents.{grave_past}
use Rattle.definition.specs.Extents.{extent_in}
use Rattle.definition.specs.Lists.{step_at, default_in, default_end, formal_at, whole, also, formals_at}
use Rattle.definition.specs.Definitions.{Parameter, parameter, formal_name, parameter_of, parameters_of, bad_formal, named, bad_formals}
use Rattle.definition.specs.declared.Formal.{Formal}
use Rattle.definition.proofs.Formals.{formals_next, behind_last, behind_more}
use Rattle.genuine.specs.Fitness.{fit_formal, fit_stored, fit_default, is_named, fit_parameters}
use Rattle.genuine.specs.Spelling.{spelled, spelled_parameter, spelled_from}
use Rattle.genuine.proofs.Parts.{part_one}
use Rattle.genuine.proofs.Spelled.{Unmarked, no_quote, Passes, DefaultRead}
use Rattle.genuine.proofs.Defaults.{default_read}
use Rattle.genuine.proofs.Keeping.{fit-default, kept, trim_behind}
use Rattle.genuine.proofs.Standing.{Stands, stands, past, front, Reads, reads_next, reads_word, white_reads, space_pieces, Lone, closer, comma, equals, lone_reads, word, name_reads}
use Rattle.genuine.proofs.Extended.{Quiet, quiet_one, quiet_then, quiet_read}

-- the byte c ends a formal, which is the last or not
record Ends (c : ℕ) (last : Bool) : Type 0 where
  lone : Lone c
  no_name : is_run 36 c ≡ false
  no_default : eqb c 61 ≡ false
  either : (eqb c 44 || eqb c 41) ≡ true
  closes : eqb c 41 ≡ last
  step : step_of c [] ≡ done

by_comma : Ends 44 false
unfolding step_of
by_comma = record { lone = comma; no_name = refl; no_default = refl; either = refl; closes = refl; step = refl }

by_closer : Ends 41 true
unfolding step_of
by_closer = record { lone = closer; no_name = refl; no_default = refl; either = refl; closes = refl; step = refl }

-- the formal at i, read, with r behind it
record Formed (s : List ℕ) (i : ℕ) (q : Parameter) (last : Bool) (r : List ℕ) : Type 0 where
  one : Formal
  reads : formal_at s i ≡ Ok one
  ends : one.last ≡ last
  within : one.next ≤ length s
  rest : drop one.next s ≡ r
  means : parameter_of s one ≡ q
  fine : bad_formal s one ≡ false
  quiet : Quiet s i one.next

-- past what keeps brackets due
passes_in : (s : List ℕ) {read : List Token} (rest : List Token) {ks js : List ℕ} → Passes s read ks js → Unmarked read → default_in s ks (read ++ rest) ≡ default_in s js rest
unfolding default_in step_at
passes_in s rest Passes.none Unmarked.none = refl
passes_in s rest (Passes.some q p) (Unmarked.some {t} a m) = rw (no_quote t a, q) (passes_in s rest p m)

module _ (s f r : List ℕ) (c i : ℕ) (last : Bool) (k : Ends c last) (h : fit_formal f ≡ true) where
  -- without a default
  bare_formed : drop i s ≡ f ++ (c ∷ r) → Formed s i (parameter f none) last r
  unfolding formal_at bad_formal
  bare_formed e =
      let j = i + length f in
      let n : Reads s i (word Name i i f) = name_reads s f c r i e h k.no_name in
      let p : drop j s ≡ c ∷ r = past s f (c ∷ r) i e in
      let b : Stands s j c r = stands s j c r p in
      let u : Reads s j (plain Byte j (j + 1) 0) = lone_reads s r j k.lone p in
      record {
        one = record { from = i; end = j; given = false; first = 0; stop = 0; next = j + 1; last = last };
        reads = rw (reads_word n refl, reads_word u refl, b.byte, k.no_default, k.either, k.closes);
        ends = refl;
        within = omega (arith, u.within);
        rest = b.rest;
        means = rw (front s f (c ∷ r) i e);
        fine = refl;
        quiet = quiet_then (quiet_one n) (quiet_one u);
      }

  -- with one
  module _ (d : List ℕ) (g : fit_stored false d ≡ true) (e : drop i s ≡ f ++ (61 ∷ (spelled d ++ (32 ∷ (c ∷ r))))) where
    -- where its name ends and its default starts and ends
    abbrev j : ℕ
    j = i + length f

    abbrev a : ℕ
    a = j + 1

    abbrev z : ℕ
    z = a + length (spelled d)

    name : Reads s i (word Name i i f)
    name = name_reads s f 61 (spelled d ++ (32 ∷ (c ∷ r))) i e h refl

    equal : Stands s j 61 (spelled d ++ (32 ∷ (c ∷ r)))
    equal = stands s j 61 (spelled d ++ (32 ∷ (c ∷ r))) (past s f (61 ∷ (spelled d ++ (32 ∷ (c ∷ r)))) i e)

    sign : Reads s j (plain Byte j (j + 1) 0)
    sign = lone_reads s (spelled d ++ (32 ∷ (c ∷ r))) j equals (past s f (61 ∷ (spelled d ++ (32 ∷ (c ∷ r)))) i e)

    default : DefaultRead s d a z
    default = default_read s d (c ∷ r) a equal.rest (kept false d g).fit

    from_space : drop z s ≡ 32 ∷ (c ∷ r)
    from_space = past s (spelled d) (32 ∷ (c ∷ r)) a equal.rest

    blank : Stands s z 32 (c ∷ r)
    blank = stands s z 32 (c ∷ r) from_space

    space : Reads s z (plain White z (z + 1) 0)
    space = white_reads s (c ∷ r) z from_space

    last_byte : Stands s (z + 1) c r
    last_byte = stands s (z + 1) c r blank.rest

    ender : Reads s (z + 1) (plain Byte (z + 1) (z + 1 + 1) 0)
    ender = lone_reads s r (z + 1) k.lone blank.rest

    ends_there : default_end s a ≡ Ok (z + 1, z + 1 + 1)
    unfolding default_end default_in step_at
    ends_there =
        ap (default_in s []) default.split ∙ (passes_in s (tokens in_definition s z) default.passes default.unmarked
        ∙ rw (reads_next space, reads_next ender, last_byte.byte, k.step))

    stored_there : stored s a (z + 1) ≡ d
    unfolding stored
    stored_there =
        let w = pieces s (z + 1) false (tokens in_definition s z) in
        let p : w ≡ 32 ∷ [] = space_pieces s (c ∷ r) z (z + 1) from_space (omega arith) ∙ ap (λ (y : List ℕ). 32 ∷ y) (pieces_past s (z + 1) (z + 1) false (omega arith)) in
        let q : pieces s (z + 1) false (tokens in_definition s a) ≡ d ++ w = ap (pieces s (z + 1) false) default.split ∙ default.stored (z + 1) (tokens in_definition s z) (omega arith) in
        rw (q, p) (trim_behind d ∙ (kept false d g).trimmed)

    plain_there : has_grave s a (z + 1) ≡ false
    unfolding has_grave grave_in holds
    plain_there =
        ap (grave_in s (z + 1)) default.split ∙ (default.plain (z + 1) (tokens in_definition s z) (omega arith)
        ∙ rw (reads_next space, lt-ltb z (z + 1) (omega arith), part_one s z blank.within, blank.byte) (grave_past s (z + 1) (z + 1) false (omega arith)))

    over_default : Quiet s a (z + 1)
    over_default =
        record {
          extent = λ x. ap (extent_in x no_fault no_fault) default.split ∙ quiet_read (tokens in_definition s z) (extent_in (z + 1) no_fault no_fault (tokens in_definition s (z + 1))) default.unbarred default.unmarked (quiet_one space).extent x;
        }

    given_formed : Formed s i (parameter f (some d)) last r
    unfolding formal_at bad_formal
    given_formed =
        record {
          one = record { from = i; end = j; given = true; first = a; stop = z + 1; next = z + 1 + 1; last = last };
          reads = rw (reads_word name refl, reads_word sign refl, equal.byte, ends_there, last_byte.byte, k.closes);
          ends = refl;
          within = omega (arith, ender.within);
          rest = last_byte.rest;
          means = rw (front s f (61 ∷ (spelled d ++ (32 ∷ (c ∷ r)))) i e, stored_there);
          fine = rw (plain_there, stored_there) (fit-default d (kept false d g).fit);
          quiet = quiet_then (quiet_one name) (quiet_then (quiet_one sign) (quiet_then over_default (quiet_one ender)));
        }

-- a name that a formal has
named_alike : (s w : List ℕ) (fs : List Formal) → named s w fs ≡ is_named w (parameters_of s fs)
unfolding named is_named parameters_of
named_alike s w [] = refl
named_alike s w (f ∷ fs) = ap (λ (b : Bool). cond (same w (formal_name s f)) true b) (named_alike s w fs)

pub parameters_length : (s : List ℕ) (fs : List Formal) → length (parameters_of s fs) ≡ length fs
unfolding parameters_of
parameters_length s [] = refl
parameters_length s (f ∷ fs) = ap suc (parameters_length s fs)

formed : (s r : List ℕ) (c i : ℕ) (last : Bool) → Ends c last → (f : List ℕ) (d : Option (List ℕ)) → fit_formal f ≡ true → fit_default d ≡ true
    → drop i s ≡ spelled_parameter (parameter f d) ++ (c ∷ r) → Formed s i (parameter f d) last r
formed s r c i last k f none h g e = bare_formed s f r c i last k h (e ∙ rw append-nil)
formed s r c i last k f (some d) h g e = given_formed s f r c i last k h d g (e ∙ simp append_assoc)

-- the formals from i on, read, with r behind them
pub record Listed (s : List ℕ) (i : ℕ) (ps : List Parameter) (r : List ℕ) : Type 0 where
  pub formals : List Formal
  pub next : ℕ
  pub reads : formals_at s i ≡ whole formals next
  pub within : next ≤ length s
  pub rest : drop next s ≡ r
  pub means : parameters_of s formals ≡ ps
  pub fine : bad_formals s formals ≡ false
  pub quiet : Quiet s i next

module _ (s r : List ℕ) (i : ℕ) (f : List ℕ) (d : Option (List ℕ)) where
  -- the last one
  listed_last : Formed s i (parameter f d) true r → Listed s i (parameter f d ∷ []) r
  unfolding parameters_of bad_formals named
  listed_last o =
      record {
        formals = o.one ∷ [];
        next = o.one.next;
        reads = formals_next s i o.one o.reads ∙ ap (also o.one) (behind_last s o.one o.ends);
        within = o.within;
        rest = o.rest;
        means = ap (λ (p : Parameter). p ∷ []) o.means;
        fine = rw o.fine;
        quiet = o.quiet;
      }

  -- one before others
  listed_more : (r' : List ℕ) (ps : List Parameter) → is_named f ps ≡ false → (o : Formed s i (parameter f d) false r') → Listed s o.one.next ps r → Listed s i (parameter f d ∷ ps) r
  unfolding parameters_of bad_formals
  listed_more r' ps n o l =
      let w : formal_name s o.one ≡ f = cc o.means in
      let u : named s (formal_name s o.one) l.formals ≡ false = named_alike s (formal_name s o.one) l.formals ∙ rw (w, l.means) n in
      record {
        formals = o.one ∷ l.formals;
        next = l.next;
        reads = formals_next s i o.one o.reads ∙ ap (also o.one) (behind_more s o.one o.ends ∙ l.reads);
        within = l.within;
        rest = l.rest;
        means = rw (o.means, l.means);
        fine = rw (o.fine, u) l.fine;
        quiet = quiet_then o.quiet l.quiet;
      }

-- what fits as a formal before others
record Fits (f : List ℕ) (d : Option (List ℕ)) (ps : List Parameter) : Type 0 where
  name : fit_formal f ≡ true
  default : fit_default d ≡ true
  once : is_named f ps ≡ false
  others : fit_parameters ps ≡ true

fits : (f : List ℕ) (d : Option (List ℕ)) (ps : List Parameter) → fit_parameters (parameter f d ∷ ps) ≡ true → Fits f d ps
unfolding fit_parameters
fits f d ps h =
    let a = fit_default d && not (is_named f ps) in
    let b : (fit_formal f && a) ≡ true = and_left (fit_formal f && a) (fit_parameters ps) h in
    let c : a ≡ true = and_right (fit_formal f) a b in
    record {
      name = and_left (fit_formal f) a b;
      default = and_left (fit_default d) (not (is_named f ps)) c;
      once = not-true (is_named f ps) (and_right (fit_default d) (not (is_named f ps)) c);
      others = and_right (fit_formal f && a) (fit_parameters ps) h;
    }

pub listed : (s r : List ℕ) (i : ℕ) (p : Parameter) (ps : List Parameter) → fit_parameters (p ∷ ps) ≡ true → drop i s ≡ spelled_from p ps ++ r → Listed s i (p ∷ ps) r
unfolding spelled_from
listed s r i (parameter f d) [] h e =
    let k : Fits f d [] = fits f d [] h in
    listed_last s r i f d (formed s r 41 i true by_closer f d k.name k.default (e ∙ append_assoc (spelled_parameter (parameter f d)) (41 ∷ []) r))
listed s r i (parameter f d) (q ∷ ps) h e =
    let k : Fits f d (q ∷ ps) = fits f d (q ∷ ps) h in
    let o : Formed s i (parameter f d) false (spelled_from q ps ++ r) = formed s (spelled_from q ps ++ r) 44 i false by_comma f d k.name k.default (e ∙ append_assoc (spelled_parameter (parameter f d)) (44 ∷ spelled_from q ps) r) in
    listed_more s r i f d (spelled_from q ps ++ r) (q ∷ ps) k.once o (listed s r o.one.next q ps k.others o.rest)
