mod LanewiseOperators
mod WordsAndRounds
mod DigestOfOneBlock
mod SharedWords
