mod DebuggingLemmas
mod RunningLemmas
mod ShellLemmas
