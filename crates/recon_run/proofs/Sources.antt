-- What is found in a source.
use Rattle.std.proofs.Common.{◌≤◌, ◌+◌, ℕ, List, [], length, replicate, Option, Some, None, refl, sym, inl, inr, arith}
use Rattle.std.proofs.lemmas.List.{length-replicate}
use Rattle.recon_run.specs.declared.found.Found.{Found}
use Rattle.recon_run.specs.declared.found.Found.TheVariants.{Fault}
use Rattle.recon_run.specs.Owed.{HasRead, ProfileParts, input_of}
use Rattle.recon_run.specs.Searched.{IsFoundIn}
use Rattle.solid_model.specs.declared.fault.Fault.TheVariants.{TooLong}
use Rattle.tv_base.specs.Pieces.{ReadsAll, ReadsPast, ReadsWithin}

-- where nothing is read, any bound is kept
pub reads_nothing : (left : Option (List ℕ)) (limit : ℕ) → ReadsWithin left left limit
reads_nothing None limit = ([], omega arith, tt)
reads_nothing (Some bytes) limit = ([], omega arith, refl)

module _ (profile : ProfileParts) (file : List ℕ) (short : length file ≤ profile.most) where
  -- all that was left was read, and what is found in it is found in what was left
  pub found_source : (left rest : Option (List ℕ)) (found : Found) → ReadsAll left rest file → IsFoundIn (input_of profile file) found
      → (t : List ℕ) × HasRead profile.most left rest t × IsFoundIn (input_of profile t) found
  found_source None rest found read is = (file, tt, is)
  found_source (Some told) rest found read is = (file, (sym read.0, inl (short, read.1)), is)

-- more was left than the most, and the fault is that it is too long
pub too_long_source : (profile : ProfileParts) (left rest : Option (List ℕ)) → ReadsPast left rest profile.most
    → (t : List ℕ) × HasRead profile.most left rest t × IsFoundIn (input_of profile t) (Fault TooLong)
too_long_source profile None rest past =
    (replicate (profile.most + 1) 0, tt, inl ((let long = length-replicate {A = ℕ} (profile.most + 1) 0 in omega (arith, long)), refl))
too_long_source profile (Some told) rest past = (told, (refl, inr past), inl (past.0, refl))
