-- The place and the number of a refusal, as the claim says them.
-- Assumes nothing.
use mathlib.Core.Bool.{true, false}
use mathlib.Core.Path.{◌≡◌, sym, subst}
use lib.Dec.{eqb}
use borrow.Author.Tests.{ne_eqb}
use Rattle.places.specs.Places.{line_at}
use Rattle.handover.specs.Entries.{body_of}
use Rattle.handover.specs.Sizes.{HandOver, Rooms, is_sound}
use Rattle.turns.specs.Runs.{run_from, context_of, start_of, Outcome, flattened}
use Rattle.turns.proofs.Taken.{taken}
use Rattle.turns.proofs.Refused.{refused_in}
use Rattle.claims.specs.Refused.{PlacedIn, NumberedIn}

module _ (h : HandOver) (r : Rooms) (e : is_sound h r ≡ true) (f : (flattened h r).number ≡ 0 → ⊥) where
  -- the place of a refusal
  pub refused_placed : PlacedIn h (flattened h r)
  refused_placed =
      let k = refused_in h r e f in
      let q : eqb (run_from (context_of h r) (start_of h r)).number 0 ≡ false = subst (λ (o : Outcome). eqb o.number 0 ≡ false) (taken h r e) (ne_eqb (flattened h r).number 0 f) in
      record {
        file_in = k.spot.file_in;
        inside = k.spot.inside;
        line_is =
            subst (λ (o : Outcome). o.line ≡ line_at (body_of h.store h.table o.file) o.byte) (sym (taken h r e)) (rw q);
      }

  -- its number
  pub refused_number : NumberedIn (flattened h r)
  refused_number = let k = refused_in h r e f in record { least = k.low; most = k.high }
