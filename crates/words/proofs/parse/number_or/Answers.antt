use Rattle.std.proofs.Common.{◌∙◌, ◌≤◌, ap, subst, sym, ℕ, arith, unwrap_or}
use Rattle.std.specs.Str.Parse.{ParsesUnsigned, ExplainsUnsignedError, HasUnsignedDigitsIfOk}
use Rattle.clap.specs.Words.{found_of, one_text}
use Rattle.words.proofs.Values.{number_read, read_within}
use Rattle.words.proofs.parse.number_or.Goals as goal

pub returns : goal.returns
returns c =
    let text = one_text (found_of c.args.matches.now) c.args.name.now in
    let value = c.unwrap_or.ensures ∙ ap (λ o. unwrap_or o c.args.otherwise)
    (number_read (λ bs r. ParsesUnsigned 64 10 bs r × ExplainsUnsignedError 10 bs r × HasUnsignedDigitsIfOk bs r) (λ u x g. g.0)
    c.args.least c.args.most text c.get_one.result (omega arith) c.requires.given c.get_one.ensures.none
    c.get_one.ensures.value) in
    let within = read_within c.args.least c.args.most c.args.otherwise text c.requires.given c.requires.least c.requires.most in
    record {
      value = value;
      least = subst (λ (n : ℕ). c.args.least ≤ n) (sym value) within.0;
      most = subst (λ (n : ℕ). n ≤ c.args.most) (sym value) within.1;
    }
