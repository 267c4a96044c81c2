mod Posted
