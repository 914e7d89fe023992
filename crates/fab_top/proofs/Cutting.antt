-- The text of a fabric without failed cables as an answer.
use Rattle.std.proofs.Common.{◌≡◌, ℕ, ◌≤◌, refl, sym, ◌∙◌, arith}
use Rattle.fab_netdiscover.specs.Writing.{text_of}
use Rattle.fab_top.specs.Answer.{Answer, done}
use Rattle.fab_top.specs.Answers.{IsFabricText}
use Rattle.fab_top.specs.Headline.{WritesTruly}
use Rattle.fab_top.specs.Seen.{Seen, WithFabric, WithoutFailed}
use Rattle.fab_top.proofs.Steps.AfterFiles.{IsTold, HasRightAnswer, fabric_one, fabric_small, fabric_exists, read_weaker, without_weaker, without_one, without_small, without_exists}
use Rattle.fab_top.proofs.Generating.{done_is_small, writes_truly}

module _ (w : Seen) (fabric failed : ℕ) where
  abbrev pub IsCutAnswer : Answer → Type 0
  IsCutAnswer a = WithFabric w fabric (λ t. WithoutFailed w t failed IsFabricText) a

  pub cut_keeps : (a : Answer) → IsCutAnswer a → WithFabric w fabric (λ t. WithoutFailed w t failed WritesTruly) a
  cut_keeps a is =
      read_weaker w fabric (λ t. WithoutFailed w t failed IsFabricText) (λ t. WithoutFailed w t failed WritesTruly) a
      (λ t read. without_weaker w t failed IsFabricText WritesTruly a read (λ left known. writes_truly left a known.fabric known.no_own_cable)) is

  module _ (told : IsTold (w.content fabric)) (listed : IsTold (w.content failed)) where
    pub one_cut : (a b : Answer) → IsCutAnswer a → IsCutAnswer b → a ≡ b
    one_cut a b first second =
        fabric_one w fabric (λ t. WithoutFailed w t failed IsFabricText) a b told
        (λ t made. without_one w t failed IsFabricText a b made listed (λ left fits x y. x ∙ sym y)) first second

    pub cut_is_small : (a : Answer) → IsCutAnswer a → a.status ≤ 3
    cut_is_small a is =
        fabric_small w fabric (λ t. WithoutFailed w t failed IsFabricText) a told
        (λ t. without_small w t failed IsFabricText a listed (λ left x. omega (arith, done_is_small (text_of left) a x))) is

    pub cut_exists : HasRightAnswer IsCutAnswer
    cut_exists =
        fabric_exists w fabric (λ t. WithoutFailed w t failed IsFabricText) told
        (λ t made. without_exists w t failed IsFabricText made listed (λ left fits. (done (text_of left), refl)))
