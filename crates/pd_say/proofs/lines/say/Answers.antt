use Rattle.pd_say.specs.Lines.{text_of}
use Rattle.pd_say.proofs.lines.say.Goals as goal

pub returns-in-NoMethod-clause-ok : goal.returns-in-NoMethod-clause-ok
unfolding text_of
returns-in-NoMethod-clause-ok g c = rw c.in-NoMethod.is c.put_no_method.ensures.ok

pub returns-in-NoMethod-clause-err : goal.returns-in-NoMethod-clause-err
unfolding text_of
returns-in-NoMethod-clause-err g c = rw c.in-NoMethod.is c.put_no_method.ensures.err

pub returns-in-NoCanvasMethod-clause-ok : goal.returns-in-NoCanvasMethod-clause-ok
unfolding text_of
returns-in-NoCanvasMethod-clause-ok g c = rw c.in-NoCanvasMethod.is c.put_canvas_error.ensures.ok

pub returns-in-NoCanvasMethod-clause-err : goal.returns-in-NoCanvasMethod-clause-err
unfolding text_of
returns-in-NoCanvasMethod-clause-err g c = rw c.in-NoCanvasMethod.is c.put_canvas_error.ensures.err

pub returns-in-BadArguments-clause-ok : goal.returns-in-BadArguments-clause-ok
unfolding text_of
returns-in-BadArguments-clause-ok g c = rw c.in-BadArguments.is c.put_canvas_error-in-BadArguments.ensures.ok

pub returns-in-BadArguments-clause-err : goal.returns-in-BadArguments-clause-err
unfolding text_of
returns-in-BadArguments-clause-err g c = rw c.in-BadArguments.is c.put_canvas_error-in-BadArguments.ensures.err

pub returns-in-NoObject-clause-ok : goal.returns-in-NoObject-clause-ok
unfolding text_of
returns-in-NoObject-clause-ok g c = rw c.in-NoObject.is c.put_named.ensures.ok

pub returns-in-NoObject-clause-err : goal.returns-in-NoObject-clause-err
unfolding text_of
returns-in-NoObject-clause-err g c = rw c.in-NoObject.is c.put_named.ensures.err

pub returns-in-NotMade-clause-ok : goal.returns-in-NotMade-clause-ok
unfolding text_of
returns-in-NotMade-clause-ok g c = rw c.in-NotMade.is c.put_named-in-NotMade.ensures.ok

pub returns-in-NotMade-clause-err : goal.returns-in-NotMade-clause-err
unfolding text_of
returns-in-NotMade-clause-err g c = rw c.in-NotMade.is c.put_named-in-NotMade.ensures.err

pub returns-in-InsideItself-clause-ok : goal.returns-in-InsideItself-clause-ok
unfolding text_of
returns-in-InsideItself-clause-ok g c = rw c.in-InsideItself.is c.put_named-in-InsideItself.ensures.ok

pub returns-in-InsideItself-clause-err : goal.returns-in-InsideItself-clause-err
unfolding text_of
returns-in-InsideItself-clause-err g c = rw c.in-InsideItself.is c.put_named-in-InsideItself.ensures.err

pub returns-in-TooDeep-clause-ok : goal.returns-in-TooDeep-clause-ok
unfolding text_of
returns-in-TooDeep-clause-ok g c = rw c.in-TooDeep.is c.put_named-in-TooDeep.ensures.ok

pub returns-in-TooDeep-clause-err : goal.returns-in-TooDeep-clause-err
unfolding text_of
returns-in-TooDeep-clause-err g c = rw c.in-TooDeep.is c.put_named-in-TooDeep.ensures.err

pub returns-in-BadFile-clause-ok : goal.returns-in-BadFile-clause-ok
unfolding text_of
returns-in-BadFile-clause-ok g c = rw c.in-BadFile.is c.put_bad_file.ensures.ok

pub returns-in-BadFile-clause-err : goal.returns-in-BadFile-clause-err
unfolding text_of
returns-in-BadFile-clause-err g c = rw c.in-BadFile.is c.put_bad_file.ensures.err

pub returns-in-NoArgument-clause-ok : goal.returns-in-NoArgument-clause-ok
unfolding text_of
returns-in-NoArgument-clause-ok g c = rw c.in-NoArgument.is c.put_no_argument.ensures.ok

pub returns-in-NoArgument-clause-err : goal.returns-in-NoArgument-clause-err
unfolding text_of
returns-in-NoArgument-clause-err g c = rw c.in-NoArgument.is c.put_no_argument.ensures.err

pub returns-in-NoFit-clause-ok : goal.returns-in-NoFit-clause-ok
unfolding text_of
returns-in-NoFit-clause-ok g c = rw c.in-NoFit.is c.put_no_fit.ensures.ok

pub returns-in-NoFit-clause-err : goal.returns-in-NoFit-clause-err
unfolding text_of
returns-in-NoFit-clause-err g c = rw c.in-NoFit.is c.put_no_fit.ensures.err

pub returns-in-SignalLoop-clause-ok : goal.returns-in-SignalLoop-clause-ok
unfolding text_of
returns-in-SignalLoop-clause-ok g c = rw c.in-SignalLoop.is c.put_loop.ensures.ok

pub returns-in-SignalLoop-clause-err : goal.returns-in-SignalLoop-clause-err
unfolding text_of
returns-in-SignalLoop-clause-err g c = rw c.in-SignalLoop.is c.put_loop.ensures.err

pub returns-in-Chain-clause-ok : goal.returns-in-Chain-clause-ok
unfolding text_of
returns-in-Chain-clause-ok g c = rw c.in-Chain.is c.put_boxes.ensures.ok

pub returns-in-Chain-clause-err : goal.returns-in-Chain-clause-err
unfolding text_of
returns-in-Chain-clause-err g c = rw c.in-Chain.is c.put_boxes.ensures.err

pub returns-in-Stuck-clause-ok : goal.returns-in-Stuck-clause-ok
unfolding text_of
returns-in-Stuck-clause-ok g c = rw c.in-Stuck.is c.put_boxes-in-Stuck.ensures.ok

pub returns-in-Stuck-clause-err : goal.returns-in-Stuck-clause-err
unfolding text_of
returns-in-Stuck-clause-err g c = rw c.in-Stuck.is c.put_boxes-in-Stuck.ensures.err

pub returns-in-Refused-clause-ok : goal.returns-in-Refused-clause-ok
unfolding text_of
returns-in-Refused-clause-ok g c = rw c.in-Refused.is c.put_refused.ensures.ok

pub returns-in-Refused-clause-err : goal.returns-in-Refused-clause-err
unfolding text_of
returns-in-Refused-clause-err g c = rw c.in-Refused.is c.put_refused.ensures.err

pub returns-in-StackOverflow-clause-ok : goal.returns-in-StackOverflow-clause-ok
unfolding text_of
returns-in-StackOverflow-clause-ok g c = rw c.in-StackOverflow.is c.put.ensures.ok

pub returns-in-StackOverflow-clause-err : goal.returns-in-StackOverflow-clause-err
unfolding text_of
returns-in-StackOverflow-clause-err g c = rw c.in-StackOverflow.is c.put.ensures.err

pub returns-in-EventCut-clause-ok : goal.returns-in-EventCut-clause-ok
unfolding text_of
returns-in-EventCut-clause-ok g c = rw c.in-EventCut.is c.put-in-EventCut.ensures.ok

pub returns-in-EventCut-clause-err : goal.returns-in-EventCut-clause-err
unfolding text_of
returns-in-EventCut-clause-err g c = rw c.in-EventCut.is c.put-in-EventCut.ensures.err

pub returns-in-MessageCut-clause-ok : goal.returns-in-MessageCut-clause-ok
unfolding text_of
returns-in-MessageCut-clause-ok g c = rw c.in-MessageCut.is c.put-in-MessageCut.ensures.ok

pub returns-in-MessageCut-clause-err : goal.returns-in-MessageCut-clause-err
unfolding text_of
returns-in-MessageCut-clause-err g c = rw c.in-MessageCut.is c.put-in-MessageCut.ensures.err

pub returns-in-TextFull-clause-ok : goal.returns-in-TextFull-clause-ok
unfolding text_of
returns-in-TextFull-clause-ok g c = rw c.in-TextFull.is c.put-in-TextFull.ensures.ok

pub returns-in-TextFull-clause-err : goal.returns-in-TextFull-clause-err
unfolding text_of
returns-in-TextFull-clause-err g c = rw c.in-TextFull.is c.put-in-TextFull.ensures.err

pub returns-in-TableFull-clause-ok : goal.returns-in-TableFull-clause-ok
unfolding text_of
returns-in-TableFull-clause-ok g c = rw c.in-TableFull.is c.put-in-TableFull.ensures.ok

pub returns-in-TableFull-clause-err : goal.returns-in-TableFull-clause-err
unfolding text_of
returns-in-TableFull-clause-err g c = rw c.in-TableFull.is c.put-in-TableFull.ensures.err

pub returns-in-QueueFull-clause-ok : goal.returns-in-QueueFull-clause-ok
unfolding text_of
returns-in-QueueFull-clause-ok g c = rw c.in-QueueFull.is c.put-in-QueueFull.ensures.ok

pub returns-in-QueueFull-clause-err : goal.returns-in-QueueFull-clause-err
unfolding text_of
returns-in-QueueFull-clause-err g c = rw c.in-QueueFull.is c.put-in-QueueFull.ensures.err

pub returns-in-TooManyRamps-clause-ok : goal.returns-in-TooManyRamps-clause-ok
unfolding text_of
returns-in-TooManyRamps-clause-ok g c = rw c.in-TooManyRamps.is c.put-in-TooManyRamps.ensures.ok

pub returns-in-TooManyRamps-clause-err : goal.returns-in-TooManyRamps-clause-err
unfolding text_of
returns-in-TooManyRamps-clause-err g c = rw c.in-TooManyRamps.is c.put-in-TooManyRamps.ensures.err

pub returns-in-NoCanvas-clause-ok : goal.returns-in-NoCanvas-clause-ok
unfolding text_of
returns-in-NoCanvas-clause-ok g c = rw c.in-NoCanvas.is c.put-in-NoCanvas.ensures.ok

pub returns-in-NoCanvas-clause-err : goal.returns-in-NoCanvas-clause-err
unfolding text_of
returns-in-NoCanvas-clause-err g c = rw c.in-NoCanvas.is c.put-in-NoCanvas.ensures.err
