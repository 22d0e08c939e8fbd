use Rattle.std.proofs.Common.{◌≡◌, ◌++◌, map, take}
use Rattle.pgs_feed.specs.Places.{fed}
use Rattle.pgs_feed.specs.Seen.{feeds_in, places}
use Rattle.pgs_world_files.specs.Counted.{untold_bytes}
use Rattle.pgguard.specs.Opened.{AreFeedsOf}
use Rattle.pgguard.proofs.opening.open_feeds.Given as goal

-- the feeds of the first names are open
abbrev pub invariant-loop-name : goal.invariant-loop-name
invariant-loop-name g l = record {
  earlier : map (λ other. other.now) l.earlier.items ≡ map (λ other. other.now) l.fn.files ++ map (λ other. other.now) (take l.name-index l.fn.names);
  opened : AreFeedsOf g.O.Opening.feed_gives (map (λ other. other.now) l.fn.files) (map (λ other. other.now) (take l.name-index l.fn.names)) (feeds_in l.feeds);
  unfailed : places (λ feed. untold_bytes) (λ feed. feed.faults) l.feeds ≡ map (λ name. fed untold_bytes 0) (map (λ other. other.now) (take l.name-index l.fn.names));
}
