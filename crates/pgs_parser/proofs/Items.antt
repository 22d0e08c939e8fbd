-- Lists of items as the loops read them: the items so far, in front of those to come.
use Rattle.std.proofs.Common.{◌≡◌, ℕ, ◌+◌, ◌<◌, ◌≤◌, List, [], ◌∷◌, ◌++◌, length, Option, Some, None, refl, sym, ap, ◌∙◌, arith, zero, suc, append_assoc}
use Rattle.std.proofs.lemmas.List.{append-nil}
use Rattle.pgs_base.specs.Options.{◌>>=◌}
use Rattle.pgs_lexer.specs.Token.{Lexeme}
use Rattle.pgs_parser.specs.declared.unread.Unread.{Unread}
use Rattle.pgs_parser.specs.declared.unread.Unread.TheVariants as unread
use Rattle.pgs_parser.specs.Gives.{IsCause}
use Rattle.pgs_parser.specs.Reader.{Reader, more, numbered}

-- an item takes at least one token
abbrev pub Shortens : {A : Type 0} → (ℕ → Reader A) → Type 0
Shortens {A} item = (place : ℕ) (tokens : List Lexeme) (x : A × List Lexeme) → item place tokens ≡ Some x → length x.1 < length tokens

-- what says that a further item begins: it needs a token, and leaves no more tokens than there were
pub record IsBegin (begin : List Lexeme → Option (List Lexeme)) : Type 0 where
  pub none : begin [] ≡ None
  pub kept : (tokens rest : List Lexeme) → begin tokens ≡ Some rest → length rest ≤ length tokens

module _ {A : Type 0} where
  -- items in front of what is read
  abbrev pub in_front : List A → List A × List Lexeme → Option (List A × List Lexeme)
  in_front front others = Some (front ++ others.0, others.1)

  abbrev pub ahead : List A → Option (List A × List Lexeme) → Option (List A × List Lexeme)
  ahead front read = read >>= in_front front

  ahead-more : (front : List A) (x : A) (r : Option (List A × List Lexeme)) → ahead (front ++ x ∷ []) r ≡ ahead front (ahead (x ∷ []) r)
  ahead-more front x None = refl
  ahead-more front x (Some others) = ap (λ xs. Some (xs, others.1)) (append_assoc front (x ∷ []) others.0)

  pub ahead-none : (r : Option (List A × List Lexeme)) → ahead [] r ≡ r
  ahead-none None = refl
  ahead-none (Some others) = refl

  module _ (begin : List Lexeme → Option (List Lexeme)) (item : ℕ → Reader A) (places : A → List ℕ) where
    -- an item and up to n more
    abbrev pub and_more : ℕ → ℕ → A × List Lexeme → Option (List A × List Lexeme)
    and_more n place first = ahead (first.0 ∷ []) (more begin item places n (place + length (places first.0)) first.1)

    pub more-none : (n place : ℕ) (tokens : List Lexeme) → begin tokens ≡ None → more begin item places n place tokens ≡ Some ([], tokens)
    unfolding more
    more-none zero place tokens e = refl
    more-none (suc n) place tokens e = rw (e, more) refl

    pub more-some : (n place : ℕ) (tokens after : List Lexeme) → begin tokens ≡ Some after →
        more begin item places (suc n) place tokens ≡ (item place after >>= and_more n place)
    unfolding more
    more-some n place tokens after e = rw (e, more) refl

    -- ---- the loop

    pub starts : (place : ℕ) (tokens : List Lexeme) (x : A × List Lexeme) → item place tokens ≡ Some x →
        ahead (x.0 ∷ []) (more begin item places (length x.1) (place + length (places x.0)) x.1) ≡ numbered begin item places place tokens
    unfolding numbered
    starts place tokens x e = rw e refl

    pub start_fails : (place : ℕ) (tokens : List Lexeme) (e : Unread) → IsCause (item place tokens) e →
        IsCause (numbered begin item places place tokens) e
    unfolding numbered
    start_fails place tokens unread.Memory h = tt
    start_fails place tokens unread.OtherForm h = rw h refl

    pub ends : (front : List A) (place : ℕ) (rest : List Lexeme) (whole : Option (List A × List Lexeme)) → begin rest ≡ None →
        ahead front (more begin item places (length rest) place rest) ≡ whole → whole ≡ Some (front, rest)
    ends front place rest whole e h =
        sym h ∙ ap (ahead front) (more-none (length rest) place rest e) ∙ ap (λ xs. Some (xs, rest)) (append-nil front)

    module _ (b : IsBegin begin) where
      -- where an item begins there are tokens
      some_tokens : (tokens after : List Lexeme) → begin tokens ≡ Some after → (n : ℕ) × (length tokens ≡ suc n)
      some_tokens [] after e = cc (b.none)
      some_tokens (t ∷ ts) after e = (length ts, refl)

      pub fails : (front : List A) (place : ℕ) (rest after : List Lexeme) (whole : Option (List A × List Lexeme)) (e : Unread) →
          begin rest ≡ Some after → ahead front (more begin item places (length rest) place rest) ≡ whole →
          IsCause (item place after) e → IsCause whole e
      fails front place rest after whole unread.Memory s h i = tt
      fails front place rest after whole unread.OtherForm s h i =
          let l = some_tokens rest after s in
          sym h ∙ ap (λ n. ahead front (more begin item places n place rest)) l.1
          ∙ ap (ahead front) (more-some l.0 place rest after s ∙ ap (λ o. o >>= and_more l.0 place) i)

      module _ (short : Shortens item) where
        -- how many items are allowed doesn't matter, once they are as many as there are tokens
        pub more-enough : (n m place : ℕ) (tokens : List Lexeme) → length tokens ≤ n → length tokens ≤ m →
            more begin item places n place tokens ≡ more begin item places m place tokens
        more-enough zero m place [] h k = more-none zero place [] b.none ∙ sym (more-none m place [] b.none)
        more-enough zero m place (t ∷ ts) h k = absurd (omega arith)
        more-enough (suc n) zero place [] h k = more-none (suc n) place [] b.none ∙ sym (more-none zero place [] b.none)
        more-enough (suc n) zero place (t ∷ ts) h k = absurd (omega arith)
        more-enough (suc n) (suc m) place tokens h k =
            elim (begin tokens) as (λ o. begin tokens ≡ o → more begin item places (suc n) place tokens ≡ more begin item places (suc m) place tokens) [
              | None ↦ λ e. more-none (suc n) place tokens e ∙ sym (more-none (suc m) place tokens e)
              | Some after ↦ λ e.
                  let l = b.kept tokens after e in
                  more-some n place tokens after e
                  ∙ (elim (item place after) as (λ o. item place after ≡ o → (o >>= and_more n place) ≡ (o >>= and_more m place)) [
                    | None ↦ λ q. refl
                    | Some x ↦ λ q.
                        let s = short place after x q in
                        ap (ahead (x.0 ∷ [])) (more-enough n m (place + length (places x.0)) x.1 (omega arith) (omega arith))
                  ] refl)
                  ∙ sym (more-some m place tokens after e)
            ] refl

        pub goes_on : (front : List A) (place : ℕ) (rest after : List Lexeme) (x : A × List Lexeme) (whole : Option (List A × List Lexeme)) →
            begin rest ≡ Some after → item place after ≡ Some x → ahead front (more begin item places (length rest) place rest) ≡ whole →
            ahead (front ++ x.0 ∷ []) (more begin item places (length x.1) (place + length (places x.0)) x.1) ≡ whole
        goes_on front place rest after x whole e q h =
            let l = some_tokens rest after e in
            let k = b.kept rest after e in
            let s = short place after x q in
            let read : more begin item places (length rest) place rest ≡ ahead (x.0 ∷ []) (more begin item places (length x.1) (place + length (places x.0)) x.1) =
            ap (λ n. more begin item places n place rest) l.1 ∙ more-some l.0 place rest after e ∙ ap (λ o. o >>= and_more l.0 place) q
            ∙ ap (ahead (x.0 ∷ [])) (more-enough l.0 (length x.1) (place + length (places x.0)) x.1 (omega (arith, l.1)) (omega arith)) in
            ahead-more front x.0 (more begin item places (length x.1) (place + length (places x.0)) x.1) ∙ ap (ahead front) (sym read) ∙ h

        pub left_less : (place : ℕ) (rest after : List Lexeme) (x : A × List Lexeme) → begin rest ≡ Some after → item place after ≡ Some x →
            length x.1 < length rest
        left_less place rest after x e q =
            let k = b.kept rest after e in
            let s = short place after x q in
            omega arith
