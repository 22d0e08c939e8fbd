-- Two tokens side by side that no production reads past: the sign `-` and a token that begins with `-`. What is shown of a
-- production is where it leads from tokens that have such a pair.
use Prim.Native.String.{String}
use Rattle.std.proofs.Common.{◌≡◌, ℕ, Bool, true, false, ◌⊎◌, inl, inr, List, [], ◌∷◌, ◌++◌, Option, Some, None, sym, ap, ◌∙◌, subst, codes, bytes_eq}
use Rattle.pgs_lexer.specs.Form.{begins_with}
use Rattle.pgs_lexer.specs.Scan.{is_minus}
use Rattle.pgs_lexer.specs.Token.{Lexeme}
use Rattle.pgs_lexer.specs.declared.kind.TokenKind.{TokenKind}
use Rattle.pgs_lexer.specs.declared.kind.TokenKind.TheVariants.{Name, Keyword, Sign}
use Rattle.pgs_parser.specs.Production.{Production, ◌▸◌, ◌or◌, nothing, IsToken, here, IsSpelled, keyword, sign, keyword_if, maybe, each, listed}
use Rattle.pgs_parser.specs.Literal.{name}

-- whether the first token begins with `-`
abbrev pub BeginsWithDash : List Lexeme → Type 0
BeginsWithDash [] = ⊥
BeginsWithDash (token ∷ rest) = begins_with is_minus token.bytes ≡ true

-- the sign `-`, and directly after it a token that begins with `-`
abbrev pub HasPair : List Lexeme → Type 0
HasPair [] = ⊥
HasPair (token ∷ rest) = (IsSpelled Sign "-" token × BeginsWithDash rest) ⊎ HasPair rest

-- the pair, or what is left of it once its first token is read
abbrev pub IsNear : List Lexeme → Type 0
IsNear tokens = HasPair tokens ⊎ BeginsWithDash tokens

pub pair_after : (earlier later : List Lexeme) → HasPair later → HasPair (earlier ++ later)
pair_after [] later pair = pair
pair_after (token ∷ earlier) later pair = inr (pair_after earlier later pair)

-- what a production leads to from tokens of which something holds
pub record Leads (From To : List Lexeme → Type 0) (production : Production) : Type 0 where
  pub leads : (before after : List Lexeme) → production before after → From before → To after

-- it does not read past the pair
abbrev pub Stays : Production → Type 0
Stays production = Leads HasPair HasPair production

-- ---- sequences and choices

-- one production and then another
infixr 30 ◌⨟◌
pub ◌⨟◌ : {From Between To : List Lexeme → Type 0} {first second : Production} → Leads From Between first → Leads Between To second → Leads From To (first ▸ second)
f ⨟ g = record { leads = λ before after h from. g.leads h.0 after h.2 (f.leads before h.0 h.1 from) }

pub either_stays : {one other : Production} → Stays one → Stays other → Stays (one or other)
either_stays f g = record { leads = λ before after h pair. elim h [ inl k ↦ f.leads before after k pair | inr k ↦ g.leads before after k pair ] }

pub nothing_stays : Stays nothing
nothing_stays = record { leads = λ before after h pair. subst HasPair h pair }

pub maybe_stays : {A : Type 0} (item : A → Production) → ((x : A) → Stays (item x)) → (there : Option A) → Stays (maybe item there)
maybe_stays item stays None = nothing_stays
maybe_stays item stays (Some x) = stays x

pub each_stays : {A : Type 0} (item : A → Production) → ((x : A) → Stays (item x)) → (xs : List A) → Stays (each item xs)
each_stays item stays [] = nothing_stays
each_stays item stays (x ∷ xs) = stays x ⨟ each_stays item stays xs

pub listed_stays : {A : Type 0} (separator : Production) (item : A → Production) → Stays separator → ((x : A) → Stays (item x)) →
    (xs : List A) → Stays (listed separator item xs)
listed_stays separator item between stays [] = record { leads = λ before after h pair. absurd h }
listed_stays separator item between stays (x ∷ xs) = stays x ⨟ each_stays (λ y. separator ▸ item y) (λ y. between ⨟ stays y) xs

-- ---- one token

-- any one token, which is at most the pair's first
pub token_is_near : (IsAsked : Lexeme → Type 0) → Leads HasPair IsNear (IsToken IsAsked)
token_is_near IsAsked = record { leads = read }
  where
    read : (before after : List Lexeme) → IsToken IsAsked before after → HasPair before → IsNear after
    read before after (here asked) pair = elim pair [ inl first ↦ inr first.1 | inr later ↦ inl later ]

-- a token other than the sign `-`
pub token_stays : (IsAsked : Lexeme → Type 0) → ((token : Lexeme) → IsAsked token → IsSpelled Sign "-" token → ⊥) → Stays (IsToken IsAsked)
token_stays IsAsked other = record { leads = read }
  where
    read : (before after : List Lexeme) → IsToken IsAsked before after → HasPair before → HasPair after
    read before after (here {token = token} asked) pair = elim pair [ inl first ↦ absurd (other token asked first.0) | inr later ↦ later ]

pub kind_stays : (kind : TokenKind) (IsAsked : Lexeme → Type 0) → (kind ≡ Sign → ⊥) → ((token : Lexeme) → IsAsked token → token.kind ≡ kind) → Stays (IsToken IsAsked)
kind_stays kind IsAsked other is_kind = token_stays IsAsked (λ token asked dash. other (sym (is_kind token asked) ∙ dash.0))

pub keyword_stays : (text : String) → Stays (keyword text)
keyword_stays text = kind_stays Keyword (IsSpelled Keyword text) (λ e. cc) (λ token asked. asked.0)

pub keyword_if_stays : (there : Bool) (text : String) → Stays (keyword_if there text)
keyword_if_stays false text = nothing_stays
keyword_if_stays true text = keyword_stays text

pub name_stays : (wanted : List ℕ) → Stays (name wanted)
name_stays wanted = kind_stays Name _ (λ e. cc) (λ token asked. asked.0)

pub sign_stays : (text : String) → bytes_eq (codes text) (codes "-") ≡ false → Stays (sign text)
sign_stays text other = token_stays (IsSpelled Sign text) (λ token asked dash. differ (sym asked.1 ∙ dash.1))
  where
    differ : codes text ≡ codes "-" → ⊥
    differ e = let same = ap (λ bytes. bytes_eq bytes (codes "-")) e in cc

-- a sign that does not begin with `-`, after a dash that may have been the pair's first
pub sign_leaves : (text : String) → begins_with is_minus (codes text) ≡ false → Leads IsNear HasPair (sign text)
sign_leaves text other = record { leads = read }
  where
    begins : (token : Lexeme) → IsSpelled Sign text token → begins_with is_minus token.bytes ≡ true → ⊥
    begins token asked e = let same = ap (begins_with is_minus) asked.1 in cc

    read : (before after : List Lexeme) → sign text before after → IsNear before → HasPair after
    read before after (here {token = token} asked) near = elim near [
      | inl pair ↦ elim pair [ inl first ↦ absurd (begins token asked (ap (begins_with is_minus) first.0.1)) | inr later ↦ later ]
      | inr first ↦ absurd (begins token asked first)
    ]
