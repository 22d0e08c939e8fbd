-- The front of a line that comes in parts.
use Rattle.std.proofs.Common.{◌≡◌, true, ℕ, List, [], ◌++◌, refl, sym, ap, ◌∙◌}
use Rattle.pgs_run_lines.specs.Buffer.{Kept, IsBegun}
use Rattle.pgs_run_lines.specs.Input.{Lines, has_no_feed, front_of, kept_of}
use Rattle.pgs_run_lines.proofs.Cutting.{kept_begun, no_feed_kept}
use Rattle.pgs_run_lines.proofs.Fronts.{front_none, front_front}
use Rattle.std.proofs.lemmas.List.{append-nil}

-- no bytes
pub begun_none : (line : Kept) → line.bytes ≡ [] → IsBegun line
begun_none line is = record { no_feed = ap has_no_feed is; front = ap (front_of line.limit) is ∙ front_none line.limit ∙ sym is }

-- more bytes without a line feed
pub begun_more : (old new : Kept) (part : List ℕ) → IsBegun old → has_no_feed part ≡ true → new.limit ≡ old.limit → new.bytes ≡ front_of old.limit (old.bytes ++ part) → IsBegun new
begun_more old new part begun none limit is = record {
  no_feed = ap has_no_feed is ∙ no_feed_kept old.limit old.bytes part begun.no_feed none;
  front = ap (λ n. front_of n new.bytes) limit ∙ ap (front_of old.limit) is ∙ front_front old.limit (old.bytes ++ part) ∙ sym is;
}

-- of which no line was ended
pub kept_alone : (line : Kept) → IsBegun line → kept_of line.limit line.bytes ≡ record { ended = []; rest = line.bytes }
kept_alone line begun =
    let e = append-nil line.bytes in
    ap (kept_of line.limit) (sym e) ∙ kept_begun line.limit line.bytes [] begun.no_feed refl
    ∙ ap (λ (text : List ℕ). let r : Lines = record { ended = []; rest = text } in r) (ap (front_of line.limit) e ∙ begun.front)
