use Rattle.std.proofs.Common.{◌≡◌, ◌∙◌, arith, codes}
use Rattle.fab_top.proofs.Wording.{no_such_command}
use Rattle.fab_top.proofs.words.command_of.Goals as goal

pub returns-in_default-as_str : goal.returns-in_default-as_str
returns-in_default-as_str c =
    no_such_command c.args.words.now c.name-item.result (omega (arith, c.in-len1-up.len_at_least)) c.name-item.is
    ((λ e. c.in_default-as_str.not-check (c.as_str.ensures.value ∙ e)), ((λ e. c.in_default-as_str.not-route (c.as_str.ensures.value ∙ e)), ((λ e. c.in_default-as_str.not-certify (c.as_str.ensures.value ∙ e)), ((λ e. c.in_default-as_str.not-convert (c.as_str.ensures.value ∙ e)), ((λ e. c.in_default-as_str.not-repair (c.as_str.ensures.value ∙ e)), ((λ e. c.in_default-as_str.not-cut (c.as_str.ensures.value ∙ e)), ((λ e. c.in_default-as_str.not-show (c.as_str.ensures.value ∙ e)), ((λ e. c.in_default-as_str.not-load (c.as_str.ensures.value ∙ e)), ((λ e. c.in_default-as_str.not-gen (c.as_str.ensures.value ∙ e)), ((λ e. c.in_default-as_str.not-demo (c.as_str.ensures.value ∙ e)), ((λ e. c.in_default-as_str.not-transit (c.as_str.ensures.value ∙ e)), ((λ e. c.in_default-as_str.not-drain (c.as_str.ensures.value ∙ e)), ((λ e. c.in_default-as_str.not-mcast (c.as_str.ensures.value ∙ e)), ((λ e. c.in_default-as_str.not-spread (c.as_str.ensures.value ∙ e)), ((λ e. c.in_default-as_str.not-sweep (c.as_str.ensures.value ∙ e)), ((λ e. c.in_default-as_str.not-export (c.as_str.ensures.value ∙ e)), ((λ e. c.in_default-as_str.not-replies (c.as_str.ensures.value ∙ e)), tt)))))))))))))))))
