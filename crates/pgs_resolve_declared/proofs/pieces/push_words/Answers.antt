use Rattle.std.proofs.Common.{ℕ, List, ◌++◌, refl, ◌∙◌, ap}
use denote.Bor.{Bor}
use Rattle.pgs_syntax.specs.declared.specification.Spec.{Spec}
use Rattle.pgs_resolve_declared.specs.Declarations.{word_in}
use Rattle.pgs_resolve_declared.proofs.Firsts.{flat_map_through}
use Rattle.pgs_resolve_declared.proofs.Walks.{none_yet, more_of, all_of}
use Rattle.pgs_resolve_declared.proofs.pieces.push_words.Goals as goal

abbrev word_at : Bor (Spec (List ℕ)) → List (List ℕ)
word_at piece = word_in piece.now

pub loop-piece-init : goal.loop-piece-init
loop-piece-init c = none_yet c.args.words.now.items

pub loop-piece-preserved : goal.loop-piece-preserved
loop-piece-preserved c =
    more_of word_at c.args.words.now.items c.args.pieces.now c.loop-piece.piece-index c.piece-item.result c.loop-piece.words.items c.push_word.new.words.items
    c.loop-piece-test.true c.piece-item.is c.loop-piece.invariant c.in_ok-push_word.ensures

pub returns : goal.returns
returns c =
    all_of word_at c.args.words.now.items c.args.pieces.now c.args.pieces.now c.loop-piece.piece-index c.loop-piece.words.items c.loop-piece-test.false refl c.loop-piece.invariant
    ∙ ap (λ words. c.args.words.now.items ++ words) (flat_map_through (λ (piece : Bor (Spec (List ℕ))). piece.now) word_in c.args.pieces.now)
