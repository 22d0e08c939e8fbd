-- A triple of shapes that has whatever is in frames covers their regions.
use Rattle.std.proofs.Common.{◌≡◌, Bool, true, false, cond, ◌&&◌, ◌||◌, List, [], ◌∷◌, ◌++◌, None, refl, sym, ◌∙◌, ap, true≢false}
use Rattle.std.specs.List.{list_any}
use Rattle.std.proofs.lemmas.Bool.{and_parts, and_from}
use Rattle.pgs_conform.specs.declared.options.Options.{Options}
use Rattle.pgs_conform.specs.declared.shape.Triple.{Triple as ShapeTriple}
use Rattle.pgs_contain.specs.declared.triples.Frames.{Frames}
use Rattle.pgs_contain.specs.Frames.{options_of}
use Rattle.pgs_contain.specs.Regions.{Point, in_region, in_some_region, lies_in, Leaves}
use Rattle.pgs_contain.specs.Threes.{Three, three_of, region_in, may_have_three, options_of_three, in_some_three, has_frames}
use Rattle.pgs_contain.proofs.Parts.{within_admits, lies_in_points}

-- what the triples of shapes that may have a triple of pairs of these labels and keys say of the keys
abbrev regions_in : List ShapeTriple → Three → List (List Options)
regions_in [] three = []
regions_in (shapes ∷ more) three = cond (may_have_three shapes three) (options_of_three shapes three ∷ regions_in more three) (regions_in more three)

regions_same : (triples : List ShapeTriple) (three : Three) (v : Point) → in_some_region (regions_in triples three) v ≡ in_some_three triples three v
regions_same [] three v = refl
regions_same (shapes ∷ more) three v = by (may_have_three shapes three) (regions_same more three v)
  where
    by : (may : Bool) → in_some_region (regions_in more three) v ≡ in_some_three more three v →
        in_some_region (cond may (options_of_three shapes three ∷ regions_in more three) (regions_in more three)) v ≡ ((may && in_region (options_of_three shapes three) v) || in_some_three more three v)
    by true same = ap (λ some. in_region (options_of_three shapes three) v || some) same
    by false same = same

-- a region that begins with one that lies in another
begun : (a b c d : List Options) (v : Point) → lies_in a b ≡ true → ((w : Point) → in_region c w ≡ true → in_region d w ≡ true) → in_region (a ++ c) v ≡ true → in_region (b ++ d) v ≡ true
begun [] [] c d v wide rest there = rest v there
begun [] (y ∷ ys) c d v wide rest there = absurd (true≢false (sym wide))
begun (x ∷ xs) [] c d v wide rest there = absurd (true≢false (sym wide))
begun (x ∷ xs) (y ∷ ys) c d [] wide rest there = absurd (true≢false (sym there))
begun (x ∷ xs) (y ∷ ys) c d (v ∷ vs) wide rest there =
    let parts = and_parts _ _ wide in
    let here = and_parts _ _ there in
    and_from _ _ (within_admits x y v parts.0 here.0) (begun xs ys c d vs parts.1 rest here.1)

module _ (frames : Frames) where
  has_point : (shapes : ShapeTriple) (v : Point) → has_frames frames shapes ≡ true → in_region (region_in frames) v ≡ true → (may_have_three shapes (three_of frames) && in_region (options_of_three shapes (three_of frames)) v) ≡ true
  has_point shapes v has there =
      let with_target = and_parts _ _ has in
      let with_middle = and_parts _ _ with_target.0 in
      let with_source = and_parts _ _ with_middle.0 in
      let source = options_of shapes.source frames.source.keys in
      let middle = options_of shapes.middle frames.middle.keys in
      let target = options_of shapes.target frames.target.keys in
      and_from _ _ with_source.0
      (begun frames.source.region source (frames.middle.region ++ frames.target.region) (middle ++ target) v with_source.1
      (λ w in_both. begun frames.middle.region middle frames.target.region target w with_middle.1 (λ u in_target. lies_in_points frames.target.region target u with_target.1 in_target) in_both) there)

  one_has_point : (triples : List ShapeTriple) (v : Point) → list_any (has_frames frames) triples ≡ true → in_region (region_in frames) v ≡ true → in_some_three triples (three_of frames) v ≡ true
  one_has_point [] v one there = absurd (true≢false (sym one))
  one_has_point (shapes ∷ more) v one there = by (has_frames frames shapes) refl one (λ later. one_has_point more v later there)
    where
      turned : (a b : Bool) → b ≡ true → (a || b) ≡ true
      turned true b is = refl
      turned false b is = is

      by : (has : Bool) → has_frames frames shapes ≡ has → (has || list_any (has_frames frames) more) ≡ true → (list_any (has_frames frames) more ≡ true → in_some_three more (three_of frames) v ≡ true)
          → ((may_have_three shapes (three_of frames) && in_region (options_of_three shapes (three_of frames)) v) || in_some_three more (three_of frames) v) ≡ true
      by true is some rest = ap (λ b. b || in_some_three more (three_of frames) v) (has_point shapes v is there)
      by false is some rest = turned _ _ (rest some)

  -- then others leave nothing of the regions
  pub covered_by_one : (others : List ShapeTriple) → list_any (has_frames frames) others ≡ true → Leaves (in_some_three others (three_of frames)) (region_in frames) None
  covered_by_one others one = record {
    taken = regions_in others (three_of frames);
    same = λ v. regions_same others (three_of frames) v;
    is = λ v there. regions_same others (three_of frames) v ∙ one_has_point others v one there;
  }
