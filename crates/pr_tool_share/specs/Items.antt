-- The programs of a list, ready for their turns.
use Rattle.std.specs.Prelude.{◌≡◌, ◌^◌, true, List, [], ◌∷◌, None, is_some, ⊤}
use Rattle.pr_edge.specs.Files.{Told}
use Rattle.pr_conf.specs.Shape.{Shape}
use Rattle.pr_share.specs.declared.items.ShareItem.{ShareItem}
use Rattle.pr_share.specs.Items.{conf_in, last_of}
use Rattle.pr_tool_share.specs.Entries.{Entry}
use Rattle.pr_tool_answers.specs.declared.answers.Answer.{Answer}
use Rattle.pr_tool_modes.specs.Evaluations.{answer_by}
use Rattle.pr_tool_modes.specs.Ready.{IsFeedOf}
use Rattle.pr_tool_modes.specs.Sources.{Gives}
use Rattle.pr_tool_share.specs.Lists.{source_in}

abbrev pub Item : Type 0
Item = ShareItem 16 8

-- this configuration is parked, with the samples and the quota of an entry
pub record IsParkedFor (entry : Entry) (conf : Shape) (item : Item) : Type 0 where
  pub some : is_some item.parked ≡ true
  pub conf_is : conf_in item.parked ≡ conf
  pub opened : IsFeedOf (2 ^ 40) conf.inputs entry.samples item.feed
  pub quota : item.quota ≡ entry.quota
  pub ended : item.ended ≡ None

-- it is that of the program of the entry
pub record IsItemOf (told : Told) (entry : Entry) (item : Item) : Type 0 where
  pub conf : Shape
  pub compiled : Gives told (source_in entry) 16 8 conf
  pub parked : IsParkedFor entry conf item

-- those of all entries, in order
abbrev pub AreItemsOf : Told → List Entry → List Item → Type 0
AreItemsOf told [] [] = ⊤
AreItemsOf told [] (item ∷ items) = ⊥
AreItemsOf told (entry ∷ entries) [] = ⊥
AreItemsOf told (entry ∷ entries) (item ∷ items) = IsItemOf told entry item × AreItemsOf told entries items

-- what the samples of a program came to that ended so
abbrev pub end_of : Item → Answer
end_of item = answer_by (last_of item.ended)
