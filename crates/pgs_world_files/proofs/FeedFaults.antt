-- The fault with which a feed's file isn't opened has its cause.
use Rattle.std.proofs.Common.{ℕ, List, inl, inr}
use Rattle.pgs_world_files.specs.declared.access.Access.TheVariants.{Append}
use Rattle.pgs_world_files.specs.declared.cause.OpenFault.{OpenFault}
use Rattle.pgs_world_files.specs.declared.cause.OpenFault.TheVariants as opens
use Rattle.pgs_world_files.specs.declared.found.Found.{Found}
use Rattle.pgs_world_files.specs.Calls.{Facts}
use Rattle.pgs_world_files.specs.Faults.{IsFault}
use Rattle.pgs_world_files.specs.FeedFaults.{FailsToLook, IsFeedFault, IsLookFault, of_open}

module _ {F : Type 0} (facts : Facts F) (opened : List Found) (name : List ℕ) where
  pub from_open : (made : OpenFault) → IsFault facts opened name Append made → IsFeedFault facts opened name (of_open made)
  from_open (opens.File cause) is = inl is
  from_open opens.Memory is = tt

  pub from_look : (made : OpenFault) → IsLookFault facts name made → IsFeedFault facts opened name (of_open made)
  from_look (opens.File cause) is = inr is
  from_look opens.Memory is = tt

pub looks : {F : Type 0} (facts : Facts F) (name : List ℕ) (made : OpenFault) → FailsToLook facts name → IsLookFault facts name made
looks facts name (opens.File cause) fails = fails
looks facts name opens.Memory fails = tt
