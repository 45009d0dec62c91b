-- A default and a formal, as they are read: the closing brackets due are in lent bytes, and never more than the bytes read.
-- Assumes nothing.
use Prim.Native.Nat.{ℕ, ◌+◌, ◌*◌, ◌<◌, ◌≤◌}
use mathlib.Core.Bool.{Bool, true, false, ◌||◌}
use mathlib.Core.List.{List}
use mathlib.Core.Path.{◌≡◌, refl, sym, ◌∙◌}
use native.Mathlib.Omega.{arith}
use lib.Dec.{eqb}
use lib.ListN.{length, get_or}
use borrow.Author.Tests.{eq-eqb, ne_eqb}
use Rattle.std.specs.Prelude.{Ok, Err}
use Rattle.lex.specs.declared.Mode.{Mode}
use Rattle.lex.specs.declared.Token.{Token}
use Rattle.lex.specs.Tokens.{in_definition, Name, Newline, is_byte, token_at, tokens}
use Rattle.brackets.specs.Stacks.{stack_of, SteppedBy, Settled, full, over}
use Rattle.brackets.specs.declared.Stepped.{Stepped}
use Rattle.brackets.specs.declared.Stepped.TheVariants as stepped
use Rattle.brackets.proofs.Stacking.{full_more, stepped_on, stepped_done, stepped_torn, stepped_short}
use Rattle.brackets.proofs.Settling.{full_lent, settled_through}
use Rattle.storing.proofs.Reading.{token_past}
use Rattle.definition.specs.declared.ReadError.{ReadError}
use Rattle.definition.specs.declared.ReadError.TheVariants.{IllFormed, NoRoom}
use Rattle.definition.specs.Heads.{gap_end, next_at}
use Rattle.definition.specs.Lists.{Ending, step_at, default_in, default_end, given_formal, formal_by, formal_at}
use Rattle.definition.proofs.Reading.{default_out, default_newline, default_on, default_done, default_torn}

-- the default that starts at `from` is read up to i, `depth` brackets are due, in bytes lent as `lent`
pub record Due (s : List ℕ) (from : ℕ) (lent work : List ℕ) (i depth : ℕ) : Type 0 where
  pub same : length work ≡ length lent
  pub fits : depth ≤ 4 * length work
  pub passed : depth + from ≤ i
  pub rest : default_in s (stack_of work depth) (tokens in_definition s i) ≡ default_end s from

pub due_first : (s : List ℕ) (from : ℕ) (work : List ℕ) → Due s from work work from 0
unfolding stack_of default_end
due_first s from work = record { same = refl; fits = omega arith; passed = omega arith; rest = refl }

module _ {s lent work : List ℕ} {from i depth : ℕ} (d : Due s from lent work i depth) where
  abbrev Told : Ending → Type 0
  Told r = Settled lent (length s) (Err NoRoom) (default_end s from) r

  pub due_out : length s ≤ i → Told (Err IllFormed)
  due_out h = full (sym (default_out s i (stack_of work depth) h) ∙ d.rest)

  -- t: the token at i, as the code reads it
  module _ (m : Mode) (t : Token) (h : i < length s) (f : m ≡ in_definition) (e : t ≡ token_at m s i) where
    pub due_newline : t.kind ≡ Newline → Told (Err IllFormed)
    due_newline k = full (sym (default_newline s i m t h f e (stack_of work depth) k) ∙ d.rest)

    -- r: the step that it takes
    module _ (k : t.kind ≡ Newline → ⊥) (r : Stepped) (work' : List ℕ) (b : SteppedBy r (step_at s t (stack_of work depth)) work work' depth) where
      pub due_next : (n : ℕ) → r ≡ stepped.On n → length work' ≡ length work → Due s from lent work' t.end n
      due_next n q l =
          let p = stepped_on r (step_at s t (stack_of work depth)) work work' depth b n q in
          let g : i < t.end = token_past m s i t e h in
          record {
            same = omega arith;
            fits = omega arith;
            passed = omega arith;
            rest = sym (default_on s i m t h f e (stack_of work depth) k (stack_of work' n) p.0) ∙ d.rest;
          }

      pub due_done : r ≡ stepped.Done → Told (Ok (t.at, t.end))
      due_done q =
          full (sym (default_done s i m t h f e (stack_of work depth) k (stepped_done r (step_at s t (stack_of work depth)) work work' depth b q).0) ∙ d.rest)

      pub due_torn : r ≡ stepped.Torn → Told (Err IllFormed)
      due_torn q =
          full (sym (default_torn s i m t h f e (stack_of work depth) k (stepped_torn r (step_at s t (stack_of work depth)) work work' depth b q).0) ∙ d.rest)

      pub due_short : r ≡ stepped.Short → Told (Err NoRoom)
      due_short q =
          let p = stepped_short r (step_at s t (stack_of work depth)) work work' depth b q in
          over refl (full_lent work lent (length s) d.same (full_more work depth (length s) p (omega arith)))

-- the formal t, whose default starts at a, by the end of that
module _ (s : List ℕ) (t : Token) (a : ℕ) {work : List ℕ} {n : ℕ} where
  pub given_upto : {e x b : ℕ} → Settled work n (Err NoRoom) (default_end s a) (Ok (e, x)) → b ≡ get_or s e 0
      → Settled work n (Err NoRoom) (given_formal s t a (default_end s a))
      (Ok (record { from = t.from; end = t.end; given = true; first = a; stop = e; next = x; last = eqb b 41 }))
  given_upto d p = settled_through (given_formal s t a) d (rw p)

  pub given_err : {e : ReadError} → Settled work n (Err NoRoom) (default_end s a) (Err e)
      → Settled work n (Err NoRoom) (given_formal s t a (default_end s a)) (Err e)
  given_err d = settled_through (given_formal s t a) d refl

-- the formal at i: t, the next word, as the code reads it
module _ (s : List ℕ) (i a : ℕ) (m : Mode) (t : Token) (g : a ≡ gap_end s i) (f : m ≡ in_definition) (e : t ≡ token_at m s a) where
  pub next_word : next_at s i ≡ t
  next_word = rw (e, f, g)

  pub formal_unnamed : (t.kind ≡ Name → ⊥) → formal_at s i ≡ Err IllFormed
  unfolding formal_at
  formal_unnamed k = rw (next_word, ne_eqb t.kind Name k)

  -- u: the word behind it
  module _ (k : t.kind ≡ Name) (a' : ℕ) (m' : Mode) (u : Token) (g' : a' ≡ gap_end s t.end) (f' : m' ≡ in_definition) (e' : u ≡ token_at m' s a') where
    formal-by : formal_at s i ≡ formal_by s t u
    unfolding formal_at
    formal-by =
        let w : next_at s t.end ≡ u = rw (e', f', g') in
        rw (next_word, eq-eqb t.kind Name k, w)

    module _ (given : Bool) (p : given ≡ is_byte s 61 u) where
      pub formal_given : given ≡ true → formal_at s i ≡ given_formal s t u.end (default_end s u.end)
      formal_given x = formal-by ∙ rw (← p, x)

      module _ (x : given ≡ false) (last comma : Bool) (l : last ≡ is_byte s 41 u) (q : comma ≡ is_byte s 44 u) where
        pub formal_plain : (comma || last) ≡ true
            → formal_at s i ≡ Ok (record { from = t.from; end = t.end; given = false; first = 0; stop = 0; next = u.end; last = last })
        formal_plain y = formal-by ∙ rw (← p, x, ← l, ← q, y)

        pub formal_other : (comma || last) ≡ false → formal_at s i ≡ Err IllFormed
        formal_other y = formal-by ∙ rw (← p, x, ← l, ← q, y)
