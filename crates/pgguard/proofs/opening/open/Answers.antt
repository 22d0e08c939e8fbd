use Rattle.std.proofs.Common.{◌∙◌, ap, List, ℕ, Option, map, option_map, subst, sym}
use Rattle.pgs_base.specs.declared.seed.Seed.{Seed}
use Rattle.pgs_feed.specs.Seen.{feeds_in}
use Rattle.pgs_program.specs.Outside.{AreFilesOf, IsFresh}
use Rattle.pgs_run_words.specs.Words.{command_of, feeds_of, store_of}
use Rattle.pgs_world_files.specs.declared.access.StoreAccess.{StoreAccess}
use Rattle.pgs_world_files.specs.declared.area_files.AreaFiles.{AreaFiles}
use Rattle.pgguard.specs.Opened.{AreFeedsOf, access_of, fed_none, files_of}
use Rattle.pgguard.proofs.opening.open.Goals as goal

pub returns : goal.returns
returns g c =
    let line = c.in_ok-line.ensures in
    let store = option_map (λ name. name.now) c.in_ok-line.line.store in
    let words = c.args.words.now in
    let areas = c.in_ok-areas.areas in
    let feeds = feeds_in c.in_ok-feeds.feeds in
    record {
      fresh = subst (λ (seed : Seed). IsFresh c.args.reader c.args.writer seed c.new-outside.result) c.seed_of.ensures c.new-outside.ensures.fresh;
      files =
          subst (λ (fs : AreaFiles _). AreFilesOf g.O.Opening.area_gives (store_of words) (access_of (command_of words)) fs) (sym c.new-outside.ensures.areas)
          (subst (λ (s : Option (List ℕ)). AreFilesOf g.O.Opening.area_gives s (access_of (command_of words)) areas) line.store
          (subst (λ (access : StoreAccess). AreFilesOf g.O.Opening.area_gives store access areas) (c.access_of.ensures ∙ ap access_of line.command) c.in_ok-areas.ensures));
      fed =
          subst (λ (s : Option (List ℕ)). AreFeedsOf g.O.Opening.feed_gives (files_of s) (feeds_of words) feeds) line.store
          (subst (λ (names : List (List ℕ)). AreFeedsOf g.O.Opening.feed_gives (files_of store) names feeds) line.feeds c.in_ok-feeds.ensures.feeds);
      unfailed = c.in_ok-feeds.ensures.places ∙ ap (map (λ name. fed_none)) line.feeds;
    }
