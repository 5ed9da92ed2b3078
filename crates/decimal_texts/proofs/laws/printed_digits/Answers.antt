use Rattle.decimal_texts.proofs.LastDigits.{length-last_digits, all_last_digits, number_of_digits}
use Rattle.decimal_texts.proofs.laws.printed_digits.Goals as goal

pub returns-clause-exact : goal.returns-clause-exact
returns-clause-exact c = length-last_digits

pub returns-clause-digits : goal.returns-clause-digits
returns-clause-digits c = all_last_digits

pub returns-clause-number : goal.returns-clause-number
returns-clause-number c = number_of_digits
