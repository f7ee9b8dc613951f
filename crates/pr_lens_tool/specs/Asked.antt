-- What is asked for, with names as their bytes.
use Rattle.std.specs.Prelude.{ℕ, Bool}
use Rattle.pr_base.specs.declared.fabrics.Fabric.{Fabric}
use Rattle.pr_tool_words.specs.Lawful.{Text}
use Rattle.pr_lens_log.specs.declared.windows.Window.{Window}
use Rattle.pr_lens_signals.specs.Manners.{Manner, manner_of}
use Rattle.pr_lens_tool.specs.declared.orders.Drawing.{Drawing}
use Rattle.pr_lens_tool.specs.declared.orders.Order.{Order}
use Rattle.pr_lens_tool.specs.declared.orders.Product.{Product}
use Rattle.pr_lens_tool.specs.declared.orders.Question.{Question}
use Rattle.pr_lens_tool.specs.declared.orders.Target.{Target}
use Rattle.pr_lens_tool.specs.declared.orders.Task.{Task}

-- a file, and how it is compiled where it is a program
pub record AskedTarget : Type 0 where
  pub file : Text
  pub fabric : Fabric
  pub narrowed : Bool

-- of a program
pub data AskedQuestion : Type 0 where
  Why : (json warnings : Bool) → AskedQuestion
  Cost : (json : Bool) (samples : ℕ) → AskedQuestion
  Graph : AskedQuestion
  Rtl : (name : Text) → AskedQuestion

-- a text that is made whole
pub data AskedProduct : Type 0 where
  OfProgram : (question : AskedQuestion) → AskedProduct
  OfLog : (drawing : Drawing) (window : Window) → AskedProduct
  Bench : (samples name : Text) (seed : ℕ) → AskedProduct

-- such a text, or one that is written as samples come
pub data AskedTask : Type 0 where
  Whole : (product : AskedProduct) → AskedTask
  Signals : (samples : Text) (manner : Manner) → AskedTask

pub record Asked : Type 0 where
  pub target : AskedTarget
  pub task : AskedTask

-- ---- what the values of the code stand for
abbrev pub target_in : Target → AskedTarget
target_in target = record { file = target.file.now; fabric = target.fabric; narrowed = target.narrowed }

abbrev pub question_in : Question → AskedQuestion
question_in (Question.Why json warnings) = Why json warnings
question_in (Question.Cost json samples) = Cost json samples
question_in Question.Graph = Graph
question_in (Question.Rtl name) = Rtl name.now

abbrev pub product_in : Product → AskedProduct
product_in (Product.OfProgram question) = OfProgram (question_in question)
product_in (Product.OfLog drawing window) = OfLog drawing window
product_in (Product.Bench samples name seed) = Bench samples.now name.now seed

abbrev pub task_in : Task → AskedTask
task_in (Task.Whole product) = Whole (product_in product)
task_in (Task.Signals samples style) = Signals samples.now (manner_of style)

abbrev pub asked_in : Order → Asked
asked_in order = record { target = target_in order.target; task = task_in order.task }
