-- Lines that are read as a session have scripts of 1 to 16 readers.
use Rattle.std.proofs.Common.{◌≡◌, ◌≤◌, Bool, true, false, ℕ, List, [], ◌∷◌, Option, None, Some, Result, Ok, Err, length, nat_le, codes, if◌then◌else◌, refl, arith}
use Rattle.std.proofs.lemmas.Bool.{and_parts, leb-true}
use Rattle.std.proofs.lemmas.List.FromFn.{length-map-range_with_len}
use Rattle.std.proofs.lemmas.Result.{IfOk-at_ok}
use Rattle.std.specs.Option.{option_and_then}
use Rattle.std.specs.Prelude.{IfOk, IfSome}
use Rattle.std.specs.Str.{bytes_eq}
use Rattle.query_session.specs.declared.ask.Ask.{Ask}
use Rattle.query_session.specs.declared.ask.Asking.{Asking}
use Rattle.query_session.specs.declared.ask.AskFault.{AskFault}
use Rattle.query_session.specs.Askings.{is_in}
use Rattle.query_session.specs.SessionLines.{kept_in, number_within, readers_of_cut, readers_of_line}
use Rattle.query_session.specs.Sessions.{read_askings, read_session, script_of, scripts_by, scripts_read}
use Rattle.text_lines.specs.Numbers.{number_of_word}
use Rattle.text_lines.specs.Words.{cut}

-- ---- readers

abbrev IsFew : ℕ → Type 0
IsFew n = is_in 1 16 n ≡ true

few_kept : (n : ℕ) (b : Bool) → is_in 1 16 n ≡ b → IfSome (if b then Some n else None) IsFew
few_kept n true is = is
few_kept n false is = tt

few_within : (number : Option ℕ) → IfSome (option_and_then (kept_in 1 16) number) IsFew
few_within None = tt
few_within (Some n) = few_kept n (is_in 1 16 n) refl

few_behind : (named : Bool) (rest : List ℕ) → IfSome (if named then number_within 1 16 rest else None) IsFew
few_behind true rest = few_within (number_of_word rest)
few_behind false rest = tt

few_in_cut : (word : List ℕ) (rest : Option (List ℕ)) → IfSome (readers_of_cut word rest) IsFew
few_in_cut word None = tt
few_in_cut word (Some rest) = few_behind (bytes_eq word (codes "readers")) rest

-- ---- scripts

abbrev AreFew : List (List Ask) → Type 0
AreFew scripts = (1 ≤ length scripts) × (length scripts ≤ 16)

few_by : (readers : Option ℕ) → IfSome readers IsFew → (lines : List (List ℕ)) → IfOk (scripts_by readers lines) AreFew
few_by None few lines = tt
few_by (Some n) few lines = counted (read_askings n 0 lines)
  where
    counted : (askings : Result (List Asking) AskFault) → IfOk (scripts_read n askings) AreFew
    counted (Err fault) = tt
    counted (Ok askings) =
        let long = length-map-range_with_len (script_of askings) 0 n in let (least, most) = and_parts (nat_le 1 n) _ few in
        let some = leb-true 1 n least in let within = leb-true n 16 most in (omega (arith, long, some), omega (arith, long, within))

few_scripts : (lines : List (List ℕ)) → IfOk (read_session lines) AreFew
few_scripts [] = tt
few_scripts (line ∷ lines) = few_by (readers_of_line line) (few_in_cut (cut line).word (cut line).rest) lines

pub few_readers : (lines : List (List ℕ)) (scripts : List (List Ask)) → read_session lines ≡ Ok scripts → (1 ≤ length scripts) × (length scripts ≤ 16)
few_readers lines scripts is = IfOk-at_ok AreFew is (few_scripts lines)
