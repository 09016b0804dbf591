mod OnePath
mod OneNaming
mod OneAnswer
