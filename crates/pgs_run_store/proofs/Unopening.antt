-- What the opening answers, by what the recovery does.
use Rattle.std.proofs.Common.{◌≡◌, Err, sym, ◌∙◌, ap, subst}
use Rattle.pgs_base.specs.declared.limits.Limits.{Limits}
use Rattle.pgs_resolve.specs.SchemaOf.{schema, schema_of}
use Rattle.pgs_run_input.specs.Answers.{schema_or_text, schema_answer}
use Rattle.pgs_run_input.specs.Session.{standard}
use Rattle.pgs_snapshot.specs.Saved.{saved}
use Rattle.pgs_store.specs.declared.fault.RecoverFault.{RecoverFault}
use Rattle.pgs_store.specs.Recovers.{IsRecovered, IsUnrecovered, Recovers}
use Rattle.pgs_store.specs.Stored.{StoreState}
use Rattle.pgs_world.specs.World.{View}
use Rattle.pgs_run_store.specs.declared.opening.Unopened.{Unopened}
use Rattle.pgs_run_store.specs.declared.opening.Unopened.TheVariants.{Refused, DiskFault, Memory}
use Rattle.pgs_run_store.specs.Opening.{IsOpened, Opens, Unopens}
use Rattle.pgs_run_store.specs.Refusing.{told_of_areas}

-- ---- none

pub not_opened : (fault : RecoverFault) (unopened : Unopened) (limits : Limits) (old now : View) → limits ≡ standard → Recovers (Err fault) limits old now → Unopens fault unopened
    → Opens (Err unopened) old now
unfolding told_of_areas
not_opened fault (Refused reply) limits old now within recovers is =
    (is.refusal, λ told go. is.told (saved standard old.shown.a old.shown.b) (subst (λ (l : Limits). IsUnrecovered (saved l old.shown.a old.shown.b) fault) within (recovers told)) go)
not_opened fault DiskFault limits old now within recovers is = tt
not_opened fault Memory limits old now within recovers is = tt

-- ---- one

pub just_opened : (it : StoreState) (limits : Limits) (old now : View) → limits ≡ standard → IsRecovered limits it old now → schema_of it.guard.text ≡ schema it.guard.schema → IsOpened it old now
unfolding schema_answer
just_opened it limits old now within recovered of_text = record {
  limits = recovered.limits_kept ∙ within;
  whole = recovered.whole;
  schema = ap schema_or_text of_text;
  saves = λ told. ap (λ (l : Limits). saved l old.shown.a old.shown.b) (sym within) ∙ recovered.saves told;
  stands = recovered.stands;
}
