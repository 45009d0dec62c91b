-- The claim over flatten, classify and pass.
-- Assumes nothing.
use Rattle.handover.specs.Sizes.{HandOver, Rooms}
use Rattle.conditions.proofs.Forms.{same_form}
use Rattle.turns.specs.Runs.{context_of}
use Rattle.turns.proofs.Claims as example
use Rattle.turns.proofs.Rooms.{text_fits, map_fits, map_lines}
use Rattle.turns.proofs.Lines.{map_places}
use Rattle.classify.proofs.Claims as words
use Rattle.claims.specs.Claim.{Bench, Conditions, Always, Claim}
use Rattle.claims.proofs.NothingDropped.{nothing_dropped}
use Rattle.claims.proofs.Demands.{demand_three}
use Rattle.claims.proofs.Growing.{larger_grows}
use Rattle.claims.proofs.Refused.{refused_placed, refused_number}
use Rattle.turns.proofs.Refused.{one_exactly, unsound_one}
use Rattle.claims.proofs.Pieces.{text_from_pieces}
use Rattle.claims.proofs.PiecesAccents.{accents_kept}

pub bench : Bench
bench =
    record {
      nested = example.nested;
      defaults = example.defaults;
      too_few = example.too_few;
      too_many = example.too_many;
      both_empty = example.both_empty;
      recursive = example.recursive;
      hidden = example.hidden;
      reserved = words.reserved;
      unreserved = words.unreserved;
    }

pub conditions : Conditions
conditions = record { four-deep = example.four-deep; one_form = same_form }

pub always : (h : HandOver) (r : Rooms) → Always h r
always h r =
    record {
      text_fits = text_fits h r;
      map_fits = map_fits h r;
      map_lines = map_lines h r;
      map_places = map_places h r;
      one_exactly = one_exactly h r;
      unsound_one = unsound_one h r;
      refused_placed = refused_placed h r;
      refused_number = refused_number h r;
      larger_grows = λ r' l e. larger_grows h r r' l e;
      from_pieces = text_from_pieces h r;
      accents_kept = accents_kept (context_of h r);
      nothing_dropped = nothing_dropped h r;
    }

pub whole : Claim
whole = record { bench = bench; conditions = conditions; always = always; demand_three = demand_three }
